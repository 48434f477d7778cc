-- What is claimed of numbered conditions and of refusals; proofs/Claims.antt proves it.
use Rattle.std.specs.Prelude.{◌≡◌, ◌≢◌, ◌↔◌, ◌⊎◌, true, List, ℕ, ◌<◌}
use Rattle.std.proofs.Math.Option.{none, some}
use Rattle.base.specs.declared.Refusal.{Refusal}
use Rattle.base.specs.declared.Refusal.TheVariants.{Other}
use Rattle.base.specs.Answers.{is_named, refusal_number}
use Rattle.base.specs.Conditions.{Condition, first_of, NoneHolds, FirstHolds}

pub record Claims : Type 0 where
  -- no number exactly where no condition holds
  pub none_law : (cs : List Condition) → (first_of cs ≡ none) ↔ NoneHolds cs
  -- a number exactly where its condition is the first that holds
  pub first_law : (x : ℕ) (cs : List Condition) → (first_of cs ≡ some x) ↔ FirstHolds x cs

pub record RefusalClaims : Type 0 where
  -- whatever number a byte has, there is a refusal with it
  pub any_number : (n : ℕ) → n < 256 → (r : Refusal) × (refusal_number r ≡ n)
  -- a refusal has a number that a name has, or it is the one without a name
  pub named_or_other : (r : Refusal) → (is_named (refusal_number r) ≡ true) ⊎ ((n : ℕ) × (r ≡ Other n))
  -- a number that a name has is told by its name alone
  pub name_alone : (n m : ℕ) → is_named m ≡ true → refusal_number (Other n) ≢ m

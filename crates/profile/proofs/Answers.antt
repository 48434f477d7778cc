-- Which number building is refused with, and what a run answers, condition by condition. Assumes
-- nothing.
use mathlib.Core.Path.{◌≡◌, refl, sym, ◌∙◌}
use mathlib.Core.Logic.{◌↔◌, ◌⊎◌, inl, inr}
use mathlib.Core.Bool.{Bool, true, false, cond}
use mathlib.Core.List.{List}
use mathlib.Core.Option.{Option, none, some}
use Prim.Native.Nat.{ℕ, ◌≤◌, ◌<◌}
use native.Mathlib.Omega.{arith}
use lib.Dec.{ltb}
use lib.ListN.{length, replicate}
use borrow.Author.Tests.{lt-ltb, le-ltb, ltb-true, ltb-false}
use Rattle.base.specs.Conditions.{first_of}
use Rattle.base.proofs.Options.{none-some}
use Rattle.base.proofs.Tests.{by_test}
use Rattle.automaton.specs.declared.Rule.{Rule}
use Rattle.automaton.specs.Rules.{WellFormed}
use Rattle.rulecheck.specs.Checking.{rule_number}
use Rattle.rulecheck.proofs.First.{checked_first, checked_then, rule_small}
use Rattle.rulecheck.proofs.Claims as check
use Rattle.marks.specs.Marks.{text_of}
use Rattle.chunks.specs.Chunks.{foreign}
use Rattle.chunks.specs.Taking.{chunk_number}
use Rattle.chunks.proofs.Claims as chunks
use Rattle.mappings.specs.Claims.{Small, keys_of}
use Rattle.mappings.proofs.Claims as mappings
use Rattle.profile.specs.declared.Profile.{Profile}
use Rattle.profile.specs.Profiles.{many_mappings, own_conditions, build_number}
use Rattle.profile.specs.Runs.{walk_to, mapping_in, run_by, run_of}
use Rattle.profile.specs.Claims.{Takes, ManyMappings, RefusedExactly, RunsExactly}

-- ---- building
-- the two tests of a checked rule
data Own (big many : Bool) : Option ℕ → Type 0 where
  too-big : big ≡ true → Own big many (some 33)
  too_many : big ≡ false → many ≡ true → Own big many (some 34)
  fits : big ≡ false → many ≡ false → Own big many none

own : (big many : Bool) → Own big many (cond big (some 33) (cond many (some 34) none))
own true many = too-big refl
own false true = too_many refl refl
own false false = fits refl refl

module _ (r : Rule) where
  abbrev tests : Option ℕ → Type 0
  tests = Own (ltb 8 r.n) (many_mappings r)

  -- the number that the check gives, or the tests
  data Which : Option ℕ → Type 0 where
    unchecked : (x : ℕ) → rule_number r ≡ some x → Which (some x)
    checked : (o : Option ℕ) → WellFormed r → tests o → Which o

  by_check : (o : Option ℕ) → rule_number r ≡ o → Which (build_number r)
  unfolding build_number
  by_check none e =
      rw (checked_then r (own_conditions r) e) (checked (first_of (own_conditions r)) (((check.claims).passes r).0 e) (own (ltb 8 r.n) (many_mappings r)))
  by_check (some x) e = rw (checked_first r (own_conditions r) x e) (unchecked x e)

  which : Which (build_number r)
  which = by_check (rule_number r) refl

  -- what a number says
  says-33 : {o : Option ℕ} → Which o → o ≡ some 33 → WellFormed r × (8 < r.n)
  says-33 (unchecked x e) f = let z : x ≡ 33 = cc in absurd (omega (arith, rule_small r x e))
  says-33 (checked o good (too-big b)) f = (good, ltb-true 8 r.n b)
  says-33 (checked o good (too_many b m)) f = let z : ◌≡◌ {A = ℕ} 34 33 = cc in absurd (omega arith)
  says-33 (checked o good (fits b m)) f = none-some refl f

  says-34 : {o : Option ℕ} → Which o → o ≡ some 34 → Small r × (512 < length (keys_of r))
  says-34 (unchecked x e) f = let z : x ≡ 34 = cc in absurd (omega (arith, rule_small r x e))
  says-34 (checked o good (too-big b)) f = let z : ◌≡◌ {A = ℕ} 33 34 = cc in absurd (omega arith)
  says-34 (checked o good (too_many b m)) f = (record { good = good; states = ltb-false 8 r.n b }, ltb-true 512 (length (keys_of r)) m)
  says-34 (checked o good (fits b m)) f = none-some refl f

  says_none : {o : Option ℕ} → Which o → o ≡ none → Small r × (length (keys_of r) ≤ 512)
  says_none (unchecked x e) f = none-some f refl
  says_none (checked o good (too-big b)) f = none-some f refl
  says_none (checked o good (too_many b m)) f = none-some f refl
  says_none (checked o good (fits b m)) f = (record { good = good; states = ltb-false 8 r.n b }, ltb-false 512 (length (keys_of r)) m)

  says_checked : {o : Option ℕ} (x : ℕ) → x ≤ 8 → Which o → o ≡ some x → rule_number r ≡ some x
  says_checked x l (unchecked y e) f = e ∙ f
  says_checked x l (checked o good (too-big b)) f = let z : 33 ≡ x = cc in absurd (omega arith)
  says_checked x l (checked o good (too_many b m)) f = let z : 34 ≡ x = cc in absurd (omega arith)
  says_checked x l (checked o good (fits b m)) f = none-some refl f

  one_of : {o : Option ℕ} (x : ℕ) → Which o → o ≡ some x → (x ≤ 8) ⊎ (x ≡ 33) ⊎ (x ≡ 34)
  one_of x (unchecked y e) f = let z : y ≡ x = cc in inl (omega (arith, rule_small r y e))
  one_of x (checked o good (too-big b)) f = inr (inl cc)
  one_of x (checked o good (too_many b m)) f = inr (inr cc)
  one_of x (checked o good (fits b m)) f = none-some refl f

  pub taken : Takes r → Small r × (length (keys_of r) ≤ 512)
  taken e = says_none which e

  -- the number from what holds
  passes : WellFormed r → build_number r ≡ cond (ltb 8 r.n) (some 33) (cond (many_mappings r) (some 34) none)
  unfolding build_number
  passes good = checked_then r (own_conditions r) (((check.claims).passes r).1 good)

  pub takes : Takes r ↔ (Small r × (ManyMappings r → ⊥))
  takes = (
    (λ e. let x = taken e in (x.0, λ m. let y = ((mappings.claims).over r x.0).1 m in omega (arith, x.1))),
    λ x.
        passes x.0.good
        ∙ rw (le-ltb 8 r.n x.0.states)
        (by_test (many_mappings r)
        (λ m. absurd (x.1 (((mappings.claims).over r x.0).0 (ltb-true 512 (length (keys_of r)) m))))
        (λ m. rw m)),
  )

  pub refused : RefusedExactly r
  unfolding build_number
  refused = record {
    checked = λ x l. (says_checked x l which, checked_first r (own_conditions r) x);
    number_33 = (says-33 which, λ x. passes x.0 ∙ rw (lt-ltb 8 r.n x.1));
    number_34 = (
      (λ e. let x = says-34 which e in (x.0, ((mappings.claims).over r x.0).0 x.1)),
      λ x.
          passes x.0.good
          ∙ rw (le-ltb 8 r.n x.0.states, lt-ltb 512 (length (keys_of r)) (((mappings.claims).over r x.0).1 x.1)),
    );
    no_other = λ x. one_of x which;
  }

-- ---- running
-- the number of the run's refusal is the chunk's
by_refusal : (o : Option ℕ) (masks : List ℕ) → (run_by o masks).refusal ≡ o
by_refusal none masks = refl
by_refusal (some x) masks = refl

by_zeros : (o : Option ℕ) (masks : List ℕ) (x : ℕ) → o ≡ some x → (run_by o masks).masks ≡ replicate 8 0
by_zeros none masks x e = none-some refl e
by_zeros (some y) masks x e = refl

module _ (p : Profile) (w : List ℕ) where
  pub refusal_is : (run_of p w).refusal ≡ chunk_number p.k w
  unfolding run_of
  refusal_is = by_refusal (chunk_number p.k w) _

  zeros : (x : ℕ) → chunk_number p.k w ≡ some x → (run_of p w).masks ≡ replicate 8 0
  unfolding run_of
  zeros x e = by_zeros (chunk_number p.k w) _ x e

  pub runs : RunsExactly p w
  runs =
      let law = (chunks.claims).taking p.k w in
      record {
        refused_12 = rw refusal_is law.number_12;
        refused_13 = rw refusal_is law.number_13;
        no_other = λ x e. law.no_other x (sym refusal_is ∙ e);
        zeros = λ x e. zeros x (sym refusal_is ∙ e);
      }

  -- a run that is accepted
  pub ran : (run_of p w).refusal ≡ none
      → (length w ≤ 65536) × (foreign (text_of w) p.k ≡ false) × ((run_of p w).masks ≡ mapping_in p (walk_to p.next 0 (text_of w)))
  unfolding run_of
  ran e =
      let n : chunk_number p.k w ≡ none = sym refusal_is ∙ e in
      let x = ((chunks.claims).taking p.k w).taken.0 n in
      (x.0, x.1, rw n)

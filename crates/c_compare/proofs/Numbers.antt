-- The length of a text is a number of 16 bits. Assumes nothing.
use Rattle.std.proofs.Common as code
use Rattle.std.proofs.Common.{Result, Ok, Some}
use mathlib.Core.Path.{◌≡◌, refl, sym, ap, ◌∙◌}
use mathlib.Core.List.{List}
use Prim.Native.Nat.{ℕ, ◌≤◌}
use native.Mathlib.Omega.{arith}
use lib.ListN.{length}
use Rattle.base.specs.declared.Refusal.{Refusal}
use Rattle.automaton.specs.declared.Rule.{Rule}
use Rattle.compare.specs.declared.Apart.{Apart}
use Rattle.compare.specs.declared.Which.{Which}
use Rattle.compare.specs.Compared.{Comparison, apart, same, refused}
use Rattle.compare.specs.Values.{Outcome, compare_outcome, outcome_of}
use Rattle.compare.specs.Search.{compare_of}
use Rattle.compare.proofs.Claims.{claims}

abbrev Answered : Type 0
Answered = Result (code.Option Apart) Refusal

module _ (one two : Rule) (r : Answered) (is : compare_outcome r ≡ outcome_of (compare_of one two)) where
  -- the length is that of a short text, or 0
  carried : (a : Comparison) → ((which : Which) (w : List ℕ) → a ≡ apart which w → length w ≤ 511) → (outcome_of a).length ≤ 511
  carried (apart which w) h = h which w refl
  carried same h = omega arith
  carried (refused x) h = omega arith

  pub short : (x : Apart) → r ≡ Ok (Some x) → x.text.length ≤ 511
  short x e = let f = ap (λ (o : Outcome). o.length) (sym (ap compare_outcome e) ∙ is) in omega (arith, carried (compare_of one two) (claims.short one two))

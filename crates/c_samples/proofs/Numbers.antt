-- The length of a sample is a number of 16 bits. Assumes nothing.
use Rattle.std.proofs.Common as code
use Rattle.std.proofs.Common.{Result, Ok, Some}
use mathlib.Core.Path.{◌≡◌, refl, sym, ap, ◌∙◌}
use mathlib.Core.List.{List}
use Prim.Native.Nat.{ℕ, ◌≤◌}
use native.Mathlib.Omega.{arith}
use lib.ListN.{length}
use Rattle.base.specs.declared.Refusal.{Refusal}
use Rattle.automaton.specs.declared.Rule.{Rule}
use Rattle.searches.specs.declared.Spelled.{Spelled}
use Rattle.samples.specs.declared.Wish.{Wish}
use Rattle.samples.specs.Samples.{Sample, text, nothing, refused}
use Rattle.samples.specs.Values.{Outcome, sample_outcome, outcome_of}
use Rattle.samples.specs.Search.{sample_of}
use Rattle.samples.proofs.Claims.{claims}

abbrev Answered : Type 0
Answered = Result (code.Option Spelled) Refusal

-- the length is that of a short text, or 0
module _ (rule : Rule) (wish : Wish) where
  carried : (outcome_of (sample_of rule wish)).length ≤ 511
  carried = go (sample_of rule wish) (claims.short rule wish)
    where
      go : (a : Sample) → ((w : List ℕ) → a ≡ text w → length w ≤ 511) → (outcome_of a).length ≤ 511
      go (text w) h = h w refl
      go nothing h = omega arith
      go (refused x) h = omega arith

  pub short : (r : Answered) → sample_outcome r ≡ outcome_of (sample_of rule wish) → (s : Spelled) → r ≡ Ok (Some s) → s.length ≤ 511
  short r is s e = let f = ap (λ (o : Outcome). o.length) (sym (ap sample_outcome e) ∙ is) in omega (arith, carried)

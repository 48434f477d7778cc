-- The case that sets C apart from the states that the automaton reaches (document 01, "Mistakes
-- that look like the method"), by computation. Assumes nothing.
use mathlib.Core.Path.{◌≡◌, refl}
use mathlib.Core.List.{List, [], ◌∷◌, flatten}
use Prim.Native.Nat.{ℕ}
use lib.ListN.{get_or}
use Rattle.masks.specs.Masks.{single, union}
use Rattle.automaton.specs.declared.Rule.{Rule}
use Rattle.automaton.specs.Successor.{after}
use Rattle.subsets.proofs.Examples.{rule_B as targets_B}
use Rattle.delegates.specs.Alike.{delegate_in, start_set}
use Rattle.chunks.specs.Chunks.{run_set, end_set}
use Rattle.joins.specs.Joining.{join_of}

abbrev rule_B : Rule
rule_B = record { n = 3; k = 1; initials = 1; finals = 6; targets = targets_B }

abbrev delegates_B : List ℕ
delegates_B = 0 ∷ 1 ∷ 1 ∷ []

-- the end set of state q at place p
abbrev ends_of : Rule → List ℕ → List (List ℕ) → ℕ → ℕ → ℕ
ends_of r d ws p q = end_set r.targets (run_set d r.n r.initials p) (get_or ws p []) q

-- B with 0 and then an empty chunk: C is {1}, and the automaton reaches {1, 2}
abbrev apart : List (List ℕ)
apart = (0 ∷ []) ∷ [] ∷ []

pub c_apart : join_of (ends_of rule_B delegates_B apart) (delegate_in delegates_B) 3 1 2 ≡ 2
unfolding union delegate_in start_set join_of
c_apart = refl

pub reached_apart : after targets_B 1 (flatten apart) ≡ 6
unfolding union flatten
reached_apart = refl

-- a member that has no delegate is passed over, and the others are joined: of {0, 1}, where 0 has
-- none, the end set {0} of 1; of {0} alone nothing
pub dead_passed : (join_of (λ p q. single 0) (delegate_in (32 ∷ 1 ∷ [])) 2 3 1 ≡ 1) × (join_of (λ p q. single 0) (delegate_in (32 ∷ 1 ∷ [])) 2 1 1 ≡ 0)
unfolding union delegate_in join_of
dead_passed = (refl, refl)

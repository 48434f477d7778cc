-- What a chunk is run from at each place (document 01, "Running a chunk"), for rules A and B, by
-- computation. Assumes nothing.
use mathlib.Core.Path.{◌≡◌, refl}
use mathlib.Core.List.{List, [], ◌∷◌}
use Prim.Native.Nat.{ℕ}
use Rattle.masks.specs.Masks.{union}
use Rattle.delegates.specs.Alike.{delegate_in, start_set}
use Rattle.chunks.specs.Chunks.{run_set}

-- the delegates of the two rules; both have the initial states {0}, as the mask 1
abbrev pub delegates_A : List ℕ
delegates_A = 0 ∷ 1 ∷ 2 ∷ []

abbrev pub delegates_B : List ℕ
delegates_B = 0 ∷ 1 ∷ 1 ∷ []

-- place 0 is run from {0}; any other from all three states of A, and from 0 and 1 of B
pub from_A : (run_set delegates_A 3 1 0 ≡ 1) × (run_set delegates_A 3 1 1 ≡ 7)
unfolding union delegate_in start_set
from_A = (refl, refl)

pub from_B : (run_set delegates_B 3 1 0 ≡ 1) × (run_set delegates_B 3 1 1 ≡ 3)
unfolding union delegate_in start_set
from_B = (refl, refl)

-- place 0 goes by the initial states alone: with none of them it is run from nothing, though there
-- are starts, and with 2 alone from its delegate 1
pub from_none : (run_set delegates_B 3 0 0 ≡ 0) × (run_set delegates_B 3 0 1 ≡ 3)
unfolding union delegate_in start_set
from_none = (refl, refl)

pub from-2 : (run_set delegates_B 3 4 0 ≡ 2) × (run_set delegates_B 3 4 1 ≡ 3)
unfolding union delegate_in start_set
from-2 = (refl, refl)

-- a state without delegate is run nowhere, neither at place 0, though it is initial, nor as a
-- start; 32 and any number above say that there is none
abbrev pub dead_in1 : List ℕ
dead_in1 = 0 ∷ 32 ∷ 2 ∷ []

abbrev pub all_dead : List ℕ
all_dead = 32 ∷ 33 ∷ 255 ∷ []

pub from_dead : (run_set dead_in1 3 3 0 ≡ 1) × (run_set dead_in1 3 3 1 ≡ 5)
unfolding union delegate_in start_set
from_dead = (refl, refl)

pub from_all_dead : (run_set all_dead 3 7 0 ≡ 0) × (run_set all_dead 3 7 1 ≡ 0)
unfolding union delegate_in start_set
from_all_dead = (refl, refl)

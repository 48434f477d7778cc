-- Rules A and B of document 01, and two rules that show the order of the numbers, by computation.
-- Assumes nothing.
use mathlib.Core.Path.{◌≡◌, refl}
use mathlib.Core.List.{List, [], ◌∷◌}
use Prim.Native.Nat.{ℕ}
use Rattle.masks.specs.Masks.{union}
use Rattle.numbering.specs.Numbering.{index_of, numbered, expand_from, close_from, keys_up_to}
use Rattle.subsets.specs.Sets.{sets_of}

abbrev pub rule_A : List ℕ
rule_A = 3 ∷ 1 ∷ 0 ∷ 0 ∷ 0 ∷ 0 ∷ 0 ∷ 0 ∷ 0 ∷ 0 ∷ 0 ∷ 0 ∷ 0 ∷ 0 ∷ 0 ∷ 0 ∷ 0 ∷ 4 ∷ []

abbrev pub rule_B : List ℕ
rule_B = 6 ∷ 0 ∷ 0 ∷ 0 ∷ 0 ∷ 0 ∷ 0 ∷ 0 ∷ 0 ∷ 0 ∷ 0 ∷ 0 ∷ 0 ∷ 0 ∷ 0 ∷ 0 ∷ 1 ∷ 0 ∷ 0 ∷ 0 ∷ 0 ∷ 0 ∷ 0 ∷ 0 ∷ 0 ∷ 0 ∷ 0 ∷ 0 ∷ 0 ∷ 0 ∷ 0 ∷ 0 ∷ 1 ∷ []

-- arcs 0 by 0 to 1 and 0 by 1 to 2; and with them 1 by 0 to 3 and 2 by 0 to 4
abbrev fork : List ℕ
fork = 2 ∷ 4 ∷ []

abbrev two_levels : List ℕ
two_levels = 2 ∷ 4 ∷ 0 ∷ 0 ∷ 0 ∷ 0 ∷ 0 ∷ 0 ∷ 0 ∷ 0 ∷ 0 ∷ 0 ∷ 0 ∷ 0 ∷ 0 ∷ 0 ∷ 8 ∷ 0 ∷ 0 ∷ 0 ∷ 0 ∷ 0 ∷ 0 ∷ 0 ∷ 0 ∷ 0 ∷ 0 ∷ 0 ∷ 0 ∷ 0 ∷ 0 ∷ 0 ∷ 16 ∷ []

pub sets_A : sets_of rule_A 3 2 ≡ 1 ∷ 3 ∷ 5 ∷ 2 ∷ 4 ∷ []
unfolding union index_of numbered expand_from close_from keys_up_to sets_of
sets_A = refl

pub sets_B : sets_of rule_B 3 1 ≡ 1 ∷ 6 ∷ 2 ∷ 4 ∷ []
unfolding union index_of numbered expand_from close_from keys_up_to sets_of
sets_B = refl

-- symbols in ascending order: descending, the sets would be 1 4 2
pub sets_fork : sets_of fork 3 2 ≡ 1 ∷ 2 ∷ 4 ∷ []
unfolding union index_of numbered expand_from close_from keys_up_to sets_of
sets_fork = refl

-- sets expanded in number order: with the set found last expanded first, they would be 1 2 4 16 8
pub sets_two_levels : sets_of two_levels 5 2 ≡ 1 ∷ 2 ∷ 4 ∷ 8 ∷ 16 ∷ []
unfolding union index_of numbered expand_from close_from keys_up_to sets_of
sets_two_levels = refl

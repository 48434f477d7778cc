-- The failure forms of the rules of document 01. Rule A has five sets and two symbols: set 3 has no
-- cell equal to one of a lower set, so its failure set is the lowest; set 4 has an empty cell equal
-- to set 3's. Rule B has four sets and one symbol: sets 2 and 3 have the cell of set 1, which is
-- less than that of set 0, and set 3 takes the lower of the two that have it. Assumes nothing.
use mathlib.Core.Path.{◌≡◌, refl}
use mathlib.Core.List.{List, [], ◌∷◌, ◌++◌}
use Prim.Native.Nat.{ℕ}
use lib.ListN.{get_or, replicate}
use Rattle.base.specs.Lists.{list_from, joined}
use Rattle.base.specs.Totals.{total}
use Rattle.masks.specs.Masks.{mask_of}
use Rattle.forms.specs.Form.{best_below, failure_of, keeps, kept_at, kept_mask, picked}

-- a set's 16 cells, of which two are in use
row : ℕ → ℕ → List ℕ
row a b = a ∷ b ∷ replicate 14 512

table : List ℕ
table = row 1 0 ++ (row 1 2 ++ (row 1 0 ++ (row 512 4 ++ row 512 512)))

failures_A : list_from 0 5 (failure_of table 2) ≡ 0 ∷ 0 ∷ 0 ∷ 0 ∷ 3 ∷ []
unfolding row table list_from best_below total
failures_A = refl

masks_A : list_from 0 5 (kept_mask table 2) ≡ 3 ∷ 2 ∷ 0 ∷ 3 ∷ 2 ∷ []
unfolding row table list_from mask_of keeps best_below total
masks_A = refl

cells_A : picked (kept_at (3 ∷ 2 ∷ 0 ∷ 3 ∷ 2 ∷ [])) (λ c. get_or table c 0) 80 ≡ 1 ∷ 0 ∷ 2 ∷ 512 ∷ 4 ∷ 512 ∷ []
unfolding row table joined
cells_A = refl

table_B : List ℕ
table_B = row 1 512 ++ (row 0 512 ++ (row 0 512 ++ row 0 512))

failures_B : list_from 0 4 (failure_of table_B 1) ≡ 0 ∷ 0 ∷ 1 ∷ 1 ∷ []
unfolding row table_B list_from best_below total
failures_B = refl

masks_B : list_from 0 4 (kept_mask table_B 1) ≡ 1 ∷ 1 ∷ 0 ∷ 0 ∷ []
unfolding row table_B list_from mask_of keeps best_below total
masks_B = refl

cells_B : picked (kept_at (1 ∷ 1 ∷ 0 ∷ 0 ∷ [])) (λ c. get_or table_B c 0) 64 ≡ 1 ∷ 0 ∷ []
unfolding row table_B joined
cells_B = refl

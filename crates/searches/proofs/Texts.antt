-- The laws of a text as an array: its cells, the text read back, and no other array has these cells.
-- Assumes that the text has at most 511 symbols where it is said.
use mathlib.Core.Path.{◌≡◌, refl, sym, ◌∙◌}
use mathlib.Core.List.{List, []}
use Prim.Native.Nat.{ℕ, ◌≤◌, ◌<◌}
use native.Mathlib.Omega.{arith}
use lib.Dec.{ltb}
use lib.ListN.{length, get_or, take, replicate, get_or-eq_default}
use lib.Seq.{ext_get_or, get_or-take, length-take-le}
use borrow.Author.Tests.{ltb-true, ltb-false}
use Rattle.base.proofs.Lists.{length_list_from, cell_of_lem, is_list_from, zero_cells}
use Rattle.base.proofs.Tests.{by_test}
use Rattle.searches.specs.Texts.{text_cells}

module _ (w : List ℕ) (short : length w ≤ 511) where
  pub size : length (text_cells w) ≡ 511
  size = length_list_from 0 511 (λ c. get_or w c 0)

  pub front : (c : ℕ) → c < length w → get_or (text_cells w) c 0 ≡ get_or w c 0
  front c b = cell_of_lem 511 (λ x. get_or w x 0) c 0 (omega arith)

  pub after : (c : ℕ) → length w ≤ c → get_or (text_cells w) c 0 ≡ 0
  after c h =
      by_test (ltb c 511)
      (λ t. cell_of_lem 511 (λ x. get_or w x 0) c 0 (ltb-true c 511 t) ∙ get_or-eq_default w 0 {n = c} h)
      (λ t. get_or-eq_default (text_cells w) 0 {n = c} (omega (arith, size, ltb-false c 511 t)))

  pub read : take (length w) (text_cells w) ≡ w
  read =
      let n : length (take (length w) (text_cells w)) ≡ length w = length-take-le (length w) (text_cells w) (omega (arith, size)) in
      ext_get_or 0 (take (length w) (text_cells w)) w n (λ i c. get_or-take (length w) (text_cells w) i 0 (omega arith) ∙ front i (omega arith))

module _ (w cells : List ℕ) (size : length cells ≡ 511) (front : (c : ℕ) → c < length w → get_or cells c 0 ≡ get_or w c 0)
    (zeros : (c : ℕ) → length w ≤ c → get_or cells c 0 ≡ 0) where
  pub cells_are : cells ≡ text_cells w
  cells_are =
      is_list_from cells 511 (λ c. get_or w c 0) size
      (λ c _.
      by_test (ltb c (length w))
      (λ t. front c (ltb-true c (length w) t))
      (λ t.
      let b = ltb-false c (length w) t in
      zeros c b ∙ sym (get_or-eq_default w 0 {n = c} b)))

pub no_cells : replicate 511 0 ≡ text_cells []
no_cells = is_list_from (replicate 511 0) 511 (λ c. get_or [] c 0) refl (λ c _. zero_cells 511 c)

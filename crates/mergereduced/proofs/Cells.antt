-- The set that a list of cells stands for. Assumes nothing.
use mathlib.Core.Path.{◌≡◌, sym, ap, ◌∙◌}
use mathlib.Core.Logic.{⊎_elim}
use mathlib.Core.Bool.{true, false}
use mathlib.Core.List.{List}
use Prim.Native.Nat.{ℕ, ◌<◌}
use lib.Dec.{eqb}
use lib.Bits.{bit_or}
use lib.ListN.{get_or, length, set, replicate}
use lib.Seq.{get_or-set_same, get_or-set_other}
use native.Mathlib.Omega.{arith}
use borrow.Author.Tests.{eqb-true, eqb-false, eq-eqb, ne_eqb}
use Rattle.base.proofs.Lists.{zero_cells}
use Rattle.base.proofs.Tests.{by_test, zero_one}
use Rattle.masks.specs.Masks.{bit, has, ◌∈◌, single}
use Rattle.masks.proofs.Laws.{ext, or_cases, or_left, or_right, single_law, empty_mask}
use Rattle.masks.proofs.Passing.{mask_in, mask_of_lem, mask_has}
use Rattle.mergereduced.specs.mirror.Asked.{set_in}

module _ (l : List ℕ) where
  pub set_few : (q : ℕ) → q ∈ set_in l → q < 1024
  unfolding set_in
  set_few q e = (mask_in (λ x. eqb (get_or l x 0) 1) 1024 q e).0

  in_cell : (q : ℕ) → q ∈ set_in l → (q < 1024) × (get_or l q 0 ≡ 1)
  unfolding set_in
  in_cell q e = let x = mask_in (λ y. eqb (get_or l y 0) 1) 1024 q e in (x.0, eqb-true (get_or l q 0) 1 x.1)

  of_cell : (q : ℕ) → q < 1024 → get_or l q 0 ≡ 1 → q ∈ set_in l
  unfolding set_in
  of_cell q h e = mask_of_lem (λ y. eqb (get_or l y 0) 1) 1024 q h (eq-eqb (get_or l q 0) 1 e)

  pub set_at_lem : (q : ℕ) → q < 1024 → has (set_in l) q ≡ eqb (get_or l q 0) 1
  unfolding set_in
  set_at_lem q h = mask_has (λ x. eqb (get_or l x 0) 1) 1024 q h

  pub cell_in : (q : ℕ) → q < 1024 → get_or l q 0 ≡ 1 → has (set_in l) q ≡ true
  cell_in q h e = set_at_lem q h ∙ eq-eqb (get_or l q 0) 1 e

  pub cell_out : (q : ℕ) → q < 1024 → (get_or l q 0 ≡ 1 → ⊥) → has (set_in l) q ≡ false
  cell_out q h e = set_at_lem q h ∙ ne_eqb (get_or l q 0) 1 e

  -- a list with the cells of a set
  pub set_made : (m : ℕ) → ((q : ℕ) → q ∈ m → q < 1024) → ((c : ℕ) → c < 1024 → get_or l c 0 ≡ bit m c) → set_in l ≡ m
  set_made m few h =
      ext (set_in l) m λ q. (
        (λ e. let x = in_cell q e in sym (h q x.0) ∙ x.1),
        λ e. of_cell q (few q e) (h q (few q e) ∙ e),
      )

-- with one cell more
module _ (l : List ℕ) where
  pub set_added : (q : ℕ) → q < 1024 → length l ≡ 1024 → set_in (set l q 1) ≡ bit_or (set_in l) (single q)
  set_added q h e =
      ext (set_in (set l q 1)) (bit_or (set_in l) (single q)) λ x. (
        (λ i.
            let u = in_cell (set l q 1) x i in
            by_test (eqb x q)
            (λ t. or_right (set_in l) (single q) x ((single_law q x).1 (eqb-true x q t)))
            (λ t. or_left (set_in l) (single q) x (of_cell l x u.0 (sym (get_or-set_other l q x 1 0 (eqb-false x q t)) ∙ u.1)))),
        λ i.
            ⊎_elim
            (λ j.
            let u = in_cell l x j in
            by_test (eqb x q)
            (λ t. let same = eqb-true x q t in of_cell (set l q 1) x u.0 (ap (λ (y : ℕ). get_or (set l q 1) y 0) same ∙ get_or-set_same l q 1 0 (rw e h)))
            (λ t. of_cell (set l q 1) x u.0 (get_or-set_other l q x 1 0 (eqb-false x q t) ∙ u.1)))
            (λ j.
            let same = (single_law q x).0 j in
            of_cell (set l q 1) x (omega (arith, same)) (ap (λ (y : ℕ). get_or (set l q 1) y 0) same ∙ get_or-set_same l q 1 0 (rw e h)))
            (or_cases (set_in l) (single q) x i),
      )

-- no cell
pub set_empty : set_in (replicate 1024 0) ≡ 0
set_empty =
    empty_mask (set_in (replicate 1024 0))
    (λ q e. zero_one (sym (zero_cells 1024 q) ∙ (in_cell (replicate 1024 0) q e).1))

-- The rows of a board's end sets, 32 cells a place: a row that is stored cell by cell, and the
-- cells once it is stored. Assumes nothing.
use mathlib.Core.Path.{◌≡◌, refl, ap, ◌∙◌}
use mathlib.Core.Logic.{◌⊎◌, inl, inr, ⊎_elim}
use mathlib.Core.Bool.{cond}
use mathlib.Core.List.{List}
use Prim.Native.Nat.{ℕ, ◌+◌, ◌*◌, ◌/◌, ◌%◌, ◌≤◌, ◌<◌}
use native.Mathlib.Omega.{arith}
use lib.Dec.{eqb, ltb}
use lib.ListN.{length, get_or, set, length-set}
use lib.Seq.{get_or-set_same, get_or-set_other}
use borrow.Author.Count.{below_none, below_more}
use borrow.Author.Tests.{eq-eqb, ne_eqb, eqb-true, eqb-false, ltb-true, ltb-false}
use Rattle.base.proofs.Lists.{is_list_from, cell_of_lem, length_list_from}
use Rattle.base.proofs.Tests.{by_test}
use Rattle.board.specs.Boards.{row_set}

-- what a cell has once the row of place p has the values g
abbrev cell_of : List ℕ → ℕ → (ℕ → ℕ) → ℕ → ℕ
cell_of ends p g c = cond (eqb (c / 32) p) (g (c % 32)) (get_or ends c 0)

-- a cell of another place is before the row or after it
outside : (p q c : ℕ) → q ≡ 32 → (c / 32 ≡ p → ⊥) → (c < p * 32) ⊎ (p * 32 + q ≤ c)
outside p q c e ne =
    by_test (ltb c (p * 32)) (λ t. inl (ltb-true c (p * 32) t)) (λ f. inr (omega (arith, ne, ltb-false c (p * 32) f)))

-- the first q cells of place p have the values g, and the others are as in `from`
pub record Stored (from : List ℕ) (p : ℕ) (g : ℕ → ℕ) (q : ℕ) (ends : List ℕ) : Type 0 where
  pub cells : length ends ≡ 2048
  pub row : (i : ℕ) → i < q → get_or ends (p * 32 + i) 0 ≡ g i
  pub others : (c : ℕ) → (c < p * 32) ⊎ (p * 32 + q ≤ c) → get_or ends c 0 ≡ get_or from c 0

pub none_stored : (from : List ℕ) (p : ℕ) (g : ℕ → ℕ) → length from ≡ 2048 → Stored from p g 0 from
none_stored from p g l = record { cells = l; row = below_none _; others = λ c h. refl }

module _ (from : List ℕ) (p : ℕ) (g : ℕ → ℕ) (q : ℕ) (ends : List ℕ) (s : Stored from p g q ends) where
  pub one_stored : p < 64 → q < 32 → Stored from p g (q + 1) (set ends (p * 32 + q) (g q))
  one_stored h i = record {
    cells = length-set ends (p * 32 + q) (g q) ∙ s.cells;
    row =
        below_more (λ x. get_or (set ends (p * 32 + q) (g q)) (p * 32 + x) 0 ≡ g x) q
        (λ x l. get_or-set_other ends (p * 32 + q) (p * 32 + x) (g q) 0 (λ z. absurd (omega arith)) ∙ s.row x l)
        (get_or-set_same ends (p * 32 + q) (g q) 0 (omega (arith, s.cells)));
    others = λ c a.
        ⊎_elim
        (λ l. get_or-set_other ends (p * 32 + q) c (g q) 0 (λ z. absurd (omega arith)) ∙ s.others c (inl l))
        (λ l. get_or-set_other ends (p * 32 + q) c (g q) 0 (λ z. absurd (omega arith)) ∙ s.others c (inr (omega arith)))
        a;
  }

  -- a whole row is stored
  pub row_stored : q ≡ 32 → ends ≡ row_set from p g
  row_stored e =
      is_list_from ends 2048 (cell_of from p g) s.cells λ c h.
      by_test (eqb (c / 32) p)
      (λ t.
      let z : c ≡ p * 32 + c % 32 = omega (arith, eqb-true (c / 32) p t) in
      rw t (ap (λ (x : ℕ). get_or ends x 0) z ∙ s.row (c % 32) (omega arith)))
      (λ f. rw f (s.others c (outside p q c e (eqb-false (c / 32) p f))))

-- the cells once a row is stored: those of its place, and those of any other
module _ (ends : List ℕ) (p : ℕ) (g : ℕ → ℕ) where
  pub row_length : length (row_set ends p g) ≡ 2048
  row_length = length_list_from 0 2048 (cell_of ends p g)

  pub row_cell : (c : ℕ) → c < 2048 → get_or (row_set ends p g) c 0 ≡ cell_of ends p g c
  row_cell c h = cell_of_lem 2048 (cell_of ends p g) c 0 h

  pub row_own : p < 64 → (q : ℕ) → q < 32 → get_or (row_set ends p g) (p * 32 + q) 0 ≡ g q
  row_own h q l =
      let e : (p * 32 + q) % 32 ≡ q = omega arith in
      row_cell (p * 32 + q) (omega arith) ∙ rw (eq-eqb ((p * 32 + q) / 32) p (omega arith), e)

  pub row_other : (i q : ℕ) → i < 64 → q < 32 → (i ≡ p → ⊥) → get_or (row_set ends p g) (i * 32 + q) 0 ≡ get_or ends (i * 32 + q) 0
  row_other i q h l ne = row_cell (i * 32 + q) (omega arith) ∙ rw (ne_eqb ((i * 32 + q) / 32) p (λ z. ne (omega arith)))

  -- rows with the same values
  pub row_same : (f : ℕ → ℕ) → ((q : ℕ) → q < 32 → g q ≡ f q) → row_set ends p g ≡ row_set ends p f
  row_same f e = is_list_from (row_set ends p g) 2048 (cell_of ends p f) row_length (λ c l. row_cell c l ∙ rw (e (c % 32) (omega arith)))

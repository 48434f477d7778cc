-- How many kept cells stand before those of a set, counted set by set or cell by cell. Assumes
-- nothing.
--
--   many_split  the numbers below a + b: those below a, and the rest
--   first-is    set by set is the rank of a set's first cell
use mathlib.Core.Path.{◌≡◌, refl}
use mathlib.Core.Bool.{Bool}
use mathlib.Core.List.{List}
use Prim.Native.Nat.{ℕ, zero, suc, ◌+◌, ◌*◌, ◌/◌, ◌%◌}
use native.Mathlib.Omega.{arith}
use lib.ListN.{get_or}
use Rattle.base.specs.Totals.{total}
use Rattle.masks.specs.Masks.{has}
use Rattle.forms.specs.Form.{how_many, kept_at}
use Rattle.forms.proofs.Picking.{many_same}
use Rattle.formtext.specs.FormText.{bits_in, first_cell}

pub many_split : (p : ℕ → Bool) (a b : ℕ) → how_many p (a + b) ≡ how_many p a + how_many (λ i. p (a + i)) b
unfolding total
many_split p a zero = let e : a + 0 ≡ a = omega arith in rw e (omega arith)
many_split p a (suc b) = let e : a + suc b ≡ suc (a + b) = omega arith in rw e (omega (arith, many_split p a b))

-- the cells of one set
row_is : (kept : List ℕ) (t : ℕ) → how_many (λ i. kept_at kept (t * 16 + i)) 16 ≡ bits_in (get_or kept t 0)
row_is kept t = many_same (λ i. kept_at kept (t * 16 + i)) (has (get_or kept t 0)) 16 λ i h.
    let q : (t * 16 + i) / 16 ≡ t = omega arith in
    let r : (t * 16 + i) % 16 ≡ i = omega arith in
    rw (q, r)

pub first-is : (kept : List ℕ) (t : ℕ) → first_cell kept t ≡ how_many (kept_at kept) (t * 16)
unfolding total
first-is kept zero = refl
first-is kept (suc t) =
    let e : suc t * 16 ≡ t * 16 + 16 = omega arith in
    rw e (omega (arith, many_split (kept_at kept) (t * 16) 16, row_is kept t, first-is kept t))

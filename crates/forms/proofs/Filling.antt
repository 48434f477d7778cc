-- An array that is filled from the front: the cells below i have their numbers, and the others what
-- they had at first. Assumes nothing.
use mathlib.Core.Path.{◌≡◌, refl, ap, ◌∙◌}
use mathlib.Core.Bool.{cond}
use mathlib.Core.List.{List}
use Prim.Native.Nat.{ℕ, zero, suc, ◌+◌, ◌<◌}
use native.Mathlib.Omega.{arith}
use lib.Dec.{eqb, ltb}
use lib.ListN.{length, get_or, set, replicate}
use lib.Seq.{get_or-set_same, get_or-set_other}
use borrow.Author.Tests.{lt-ltb, le-ltb, eqb-true, eqb-false, ltb-true, ltb-false}
use Rattle.base.proofs.Tests.{by_test}

-- each cell of a list of equal numbers
pub same_cells : (len d i : ℕ) → i < len → get_or (replicate len d) i 0 ≡ d
same_cells zero d i h = absurd (omega arith)
same_cells (suc len) d zero h = refl
same_cells (suc len) d (suc i) h = same_cells len d i (omega arith)

-- of so many cells, each with the number d at first and g of its place in the end
module _ (len d : ℕ) (g : ℕ → ℕ) where
  abbrev pub Filled : ℕ → List ℕ → Type 0
  Filled i l = (j : ℕ) → j < len → get_or l j 0 ≡ cond (ltb j i) (g j) d

  pub filled_none : (l : List ℕ) → l ≡ replicate len d → Filled 0 l
  filled_none l e j h = ap (λ (x : List ℕ). get_or x j 0) e ∙ same_cells len d j h ∙ rw (le-ltb j 0 (omega arith))

  pub fill_more : (i v : ℕ) (l : List ℕ) → v ≡ g i → i < length l → Filled i l → Filled (i + 1) (set l i v)
  fill_more i v l e n h j b =
      by_test (eqb j i)
      (λ q.
      let z : j ≡ i = eqb-true j i q in
      rw (lt-ltb j (i + 1) (omega arith), z) (get_or-set_same l i v 0 n ∙ e))
      (λ q.
      get_or-set_other l i j v 0 (eqb-false j i q)
      ∙ h j b
      ∙ by_test (ltb j i)
      (λ u. rw (u, lt-ltb j (i + 1) (omega (arith, ltb-true j i u))))
      (λ u. rw (u, le-ltb j (i + 1) (omega (arith, ltb-false j i u, eqb-false j i q)))))

-- Two chunks offered to a board leave the same board in either order (document 02, R-11), unless
-- they have one revision at one place. Assumes the lengths of the arrays (`Sized`).
--
--   offered fits b p v s   the board after a chunk with the runs s and the revision v was offered to
--                          place p: it is kept where it fits and does not come late
--   filled_again           of what a place held before nothing is left
--   filled_apart           two places are filled in either order
--   commutes               the claim
use mathlib.Core.Path.{◌≡◌, refl, sym, ap, ◌∙◌, subst}
use mathlib.Core.Bool.{Bool, true, false, cond, not, ◌&&◌}
use mathlib.Core.List.{List}
use Prim.Native.Nat.{ℕ, ◌+◌, ◌/◌, ◌%◌, ◌<◌}
use native.Mathlib.Omega.{arith}
use lib.Dec.{eqb, ltb}
use lib.ListN.{length, get_or, set, length-set}
use lib.Seq.{get_or-set_same, get_or-set_other, ext_get_or}
use borrow.Author.Tests.{lt-ltb, le-ltb, ltb-true, ltb-false, eqb-true, eqb-false, ne_eqb}
use Rattle.base.proofs.Lists.{same_list}
use Rattle.base.proofs.Tests.{by_test}
use Rattle.chunks.specs.declared.Runs.{Runs}
use Rattle.board.specs.declared.Board.{Board}
use Rattle.board.specs.Boards.{last_at, comes_late, row_set, filled_at}
use Rattle.board.proofs.Rows.{row_cell}
use Rattle.board.proofs.Laws.{Sized, filled_at_lem}

abbrev pub offered : Bool → Board → ℕ → ℕ → Runs → Board
offered fits b p v s = cond (fits && not (comes_late b p v)) (filled_at b p v s) b

-- ---- cells and rows
set_again : (l : List ℕ) (p x y : ℕ) → set (set l p x) p y ≡ set l p y
set_again l p x y =
    ext_get_or 0 (set (set l p x) p y) (set l p y) (length-set (set l p x) p y ∙ length-set l p x ∙ sym (length-set l p y)) λ c h.
    let long : c < length l = rw (length-set (set l p x) p y, length-set l p x) at h in
    by_test (eqb c p)
    (λ e.
    let z : c ≡ p = eqb-true c p e in
    let within : p < length l = rw z at long in
    subst (λ (i : ℕ). get_or (set (set l p x) p y) i 0 ≡ get_or (set l p y) i 0) (sym z)
    (get_or-set_same (set l p x) p y 0 (rw (length-set l p x) within) ∙ sym (get_or-set_same l p y 0 within)))
    (λ e.
    let ne = eqb-false c p e in
    get_or-set_other (set l p x) p c y 0 ne ∙ get_or-set_other l p c x 0 ne ∙ sym (get_or-set_other l p c y 0 ne))

set_apart : (l : List ℕ) (p q x y : ℕ) → (p ≡ q → ⊥) → set (set l p x) q y ≡ set (set l q y) p x
set_apart l p q x y apart =
    ext_get_or 0 (set (set l p x) q y) (set (set l q y) p x)
    (length-set (set l p x) q y ∙ length-set l p x ∙ sym (length-set (set l q y) p x ∙ length-set l q y))
    λ c h.
    let long : c < length l = rw (length-set (set l p x) q y, length-set l p x) at h in
    by_test (eqb c p)
    (λ e.
    let z : c ≡ p = eqb-true c p e in
    let within : p < length l = rw z at long in
    subst (λ (i : ℕ). get_or (set (set l p x) q y) i 0 ≡ get_or (set (set l q y) p x) i 0) (sym z)
    (get_or-set_other (set l p x) q p y 0 apart ∙ get_or-set_same l p x 0 within
    ∙ sym (get_or-set_same (set l q y) p x 0 (rw (length-set l q y) within))))
    (λ e.
    let ne = eqb-false c p e in
    by_test (eqb c q)
    (λ d.
    let z : c ≡ q = eqb-true c q d in
    let within : q < length l = rw z at long in
    subst (λ (i : ℕ). get_or (set (set l p x) q y) i 0 ≡ get_or (set (set l q y) p x) i 0) (sym z)
    (get_or-set_same (set l p x) q y 0 (rw (length-set l p x) within)
    ∙ sym (get_or-set_other (set l q y) p q x 0 (λ k. apart (sym k)) ∙ get_or-set_same l q y 0 within)))
    (λ d.
    let other = eqb-false c q d in
    get_or-set_other (set l p x) q c y 0 other ∙ get_or-set_other l p c x 0 ne
    ∙ sym (get_or-set_other (set l q y) p c x 0 ne ∙ get_or-set_other l q c y 0 other)))

module _ (ends : List ℕ) (p : ℕ) (g : ℕ → ℕ) where
  row_again : (h : ℕ → ℕ) → row_set (row_set ends p g) p h ≡ row_set ends p h
  row_again h =
      same_list 2048 (λ c. cond (eqb (c / 32) p) (h (c % 32)) (get_or (row_set ends p g) c 0))
      (λ c. cond (eqb (c / 32) p) (h (c % 32)) (get_or ends c 0))
      λ c l.
      by_test (eqb (c / 32) p) (λ e. rw e) (λ e. rw e (row_cell ends p g c l ∙ rw e))

  row_apart : (q : ℕ) (h : ℕ → ℕ) → (p ≡ q → ⊥) → row_set (row_set ends p g) q h ≡ row_set (row_set ends q h) p g
  row_apart q h apart =
      same_list 2048 (λ c. cond (eqb (c / 32) q) (h (c % 32)) (get_or (row_set ends p g) c 0))
      (λ c. cond (eqb (c / 32) p) (g (c % 32)) (get_or (row_set ends q h) c 0))
      λ c l.
      by_test (eqb (c / 32) q)
      (λ e.
      let ne : eqb (c / 32) p ≡ false = ne_eqb (c / 32) p (λ z. apart (sym z ∙ eqb-true (c / 32) q e)) in
      rw (e, ne) (sym (row_cell ends q h c l ∙ rw e)))
      (λ e.
      rw e
      (row_cell ends p g c l
      ∙ by_test (eqb (c / 32) p) (λ d. rw d) (λ d. rw d (sym (row_cell ends q h c l ∙ rw e)))))

-- ---- boards
same_board : {n : ℕ} {f f' c c' l l' r r' e e' : List ℕ} → f ≡ f' → c ≡ c' → l ≡ l' → r ≡ r' → e ≡ e'
    → ◌≡◌ {A = Board} (record { places = n; filled = f; counts = c; lengths = l; revisions = r; ends = e })
    (record { places = n; filled = f'; counts = c'; lengths = l'; revisions = r'; ends = e' })
same_board a b c d e = cc

module _ (b : Board) (p v : ℕ) (s : Runs) where
  pub filled_again : (u : ℕ) (t : Runs) → filled_at (filled_at b p v s) p u t ≡ filled_at b p u t
  unfolding filled_at
  filled_again u t =
      same_board
      (set_again b.filled p 1 1)
      (set_again b.counts p s.count t.count)
      (set_again b.lengths p s.bytes t.bytes)
      (set_again b.revisions p (v + 1) (u + 1))
      (row_again b.ends p (λ q. get_or s.ends q 0) (λ q. get_or t.ends q 0))

  pub filled_apart : (q u : ℕ) (t : Runs) → (p ≡ q → ⊥) → filled_at (filled_at b p v s) q u t ≡ filled_at (filled_at b q u t) p v s
  unfolding filled_at
  filled_apart q u t apart =
      same_board
      (set_apart b.filled p q 1 1 apart)
      (set_apart b.counts p q s.count t.count apart)
      (set_apart b.lengths p q s.bytes t.bytes apart)
      (set_apart b.revisions p q (v + 1) (u + 1) apart)
      (row_apart b.ends p (λ q. get_or s.ends q 0) q (λ q. get_or t.ends q 0) apart)

module _ (b : Board) (sized : Sized b) where
  -- what comes late after place p was filled: by its revision there, as before elsewhere
  late_own : (p v : ℕ) (s : Runs) → p < 64 → (u : ℕ) → comes_late (filled_at b p v s) p u ≡ ltb u (v + 1)
  late_own p v s h u = ap (ltb u) (filled_at_lem b p sized h v s).last_own

  late_other : (p v : ℕ) (s : Runs) → p < 64 → (q u : ℕ) → (q ≡ p → ⊥) → comes_late (filled_at b p v s) q u ≡ comes_late b q u
  late_other p v s h q u ne = ap (ltb u) ((filled_at_lem b p sized h v s).last_other q ne)

  -- two revisions at one place: the greater one is left, if any
  rising : (p v u : ℕ) (s t : Runs) → p < 64 → v < u → offered true (offered true b p v s) p u t ≡ offered true (offered true b p u t) p v s
  rising p v u s t h less =
      by_test (comes_late b p u)
      (λ both.
      let early : comes_late b p v ≡ true = lt-ltb v (last_at b p) (omega (arith, less, ltb-true u (last_at b p) both)) in
      rw (early, both, early))
      (λ new.
      let past : comes_late (filled_at b p u t) p v ≡ true = late_own p u t h v ∙ lt-ltb v (u + 1) (omega (arith, less)) in
      by_test (comes_late b p v)
      (λ early. rw (early, new, past))
      (λ old.
      let next : comes_late (filled_at b p v s) p u ≡ false = late_own p v s h u ∙ le-ltb u (v + 1) (omega (arith, less)) in
      rw (old, next, new, past) (filled_again b p v s u t)))

  apart : (p q v u : ℕ) (s t : Runs) → p < 64 → q < 64 → (p ≡ q → ⊥)
      → offered true (offered true b p v s) q u t ≡ offered true (offered true b q u t) p v s
  apart p q v u s t hp hq ne =
      let at-q : comes_late (filled_at b p v s) q u ≡ comes_late b q u = late_other p v s hp q u (λ z. ne (sym z)) in
      let at_p : comes_late (filled_at b q u t) p v ≡ comes_late b p v = late_other q u t hq p v ne in
      by_test (comes_late b p v)
      (λ e.
      by_test (comes_late b q u)
      (λ d. rw (e, d, e))
      (λ d. rw (e, d, at_p, e)))
      (λ e.
      by_test (comes_late b q u)
      (λ d. rw (e, at-q, d, e))
      (λ d. rw (e, at-q, d, at_p, e) (filled_apart b p v s q u t ne)))

  pub commutes : (f g : Bool) (p q v u : ℕ) (s t : Runs) → (f ≡ true → p < 64) → (g ≡ true → q < 64) → (p ≡ q → v ≡ u → ⊥)
      → offered g (offered f b p v s) q u t ≡ offered f (offered g b q u t) p v s
  commutes false false p q v u s t hp hq once = refl
  commutes false true p q v u s t hp hq once = refl
  commutes true false p q v u s t hp hq once = refl
  commutes true true p q v u s t hp hq once =
      by_test (eqb p q)
      (λ e.
      let z : p ≡ q = eqb-true p q e in
      let at_one : offered true (offered true b p v s) p u t ≡ offered true (offered true b p u t) p v s =
      by_test (ltb v u)
      (λ l. rising p v u s t (hp refl) (ltb-true v u l))
      (λ l.
      let differ = once z in
      by_test (eqb v u)
      (λ same. absurd (differ (eqb-true v u same)))
      (λ same. sym (rising p u v t s (hp refl) (omega (arith, ltb-false v u l, eqb-false v u same))))) in
      subst (λ (x : ℕ). offered true (offered true b p v s) x u t ≡ offered true (offered true b x u t) p v s) z at_one)
      (λ e. apart p q v u s t (hp refl) (hq refl) (eqb-false p q e))

-- What is found over a text, and of its chunk; and the ways out of `locate`. Assumes nothing.
use mathlib.Core.Path.{◌≡◌, refl, sym, ap, ap₂, ◌∙◌}
use mathlib.Core.Bool.{Bool, true, false, cond}
use mathlib.Core.List.{List}
use mathlib.Core.Option.{none, some}
use Prim.Native.Nat.{ℕ, ◌≤◌, ◌<◌, min}
use native.Mathlib.Omega.{arith}
use lib.ListN.{length, get_or}
use borrow.Author.Tests.{eq-eqb, ne_eqb, le-leb, lt-leb, lt-ltb, le-ltb}
use Rattle.base.specs.Conditions.{any_below}
use Rattle.base.proofs.Tests.{either_most}
use Rattle.base.proofs.Totals.{greatest_most}
use Rattle.masks.specs.Masks.{has}
use Rattle.marks.specs.Marks.{marked, text_of}
use Rattle.marks.proofs.Claims as marks
use Rattle.walks.proofs.Steps as walks
use Rattle.chunks.specs.declared.Runs.{Runs}
use Rattle.chunks.specs.Chunks.{foreign}
use Rattle.chunks.specs.mirror.Walks.{step_of, walk_looked, runs_of, delegate_mask}
use Rattle.board.specs.Boards.{places_of, is_empty}
use Rattle.joins.specs.Joining.{join_up_to}
use Rattle.calls.specs.declared.Judge.{Judge}
use Rattle.locating.specs.mirror.Pruning.{live_set, pruned}
use Rattle.locating.specs.Locating.{Spot, refused_for, stuck_after, nowhere, some_left, found_by, spot_in, text_spot, in_chunk, spot_by, spot_of}
use Rattle.locating.proofs.Positions.{position_claims}

-- ---- the bytes looked up are bytes of the text
pub looked_within : (sets next singles : List ℕ) (run : ℕ) (t : List ℕ) → (runs_of sets next singles run t).looked ≤ length t
looked_within sets next singles run t =
    greatest_most (λ q. cond (has run q) (walk_looked next (get_or singles q 0) t) 0) (length t) 32
    (λ q l. either_most (has run q) (walks.looked_most (step_of next) 512 (get_or singles q 0) t) (omega arith))

-- ---- all runs together, by a table
module _ (sets next singles : List ℕ) (run : ℕ) (t cut : List ℕ) (cuts : cut ≡ next) (runs : Runs) (ran : runs ≡ runs_of sets cut singles run t) (left : Bool) (is : left ≡ some_left runs.ends) where
  by_table : cond left nowhere (stuck_after runs.looked) ≡ found_by (runs_of sets next singles run t)
  by_table =
      ap (λ (b : Bool). cond b nowhere (stuck_after runs.looked)) is
      ∙ ap found_by (ran ∙ ap (λ (x : List ℕ). runs_of sets x singles run t) cuts)

  pub table_nowhere : left ≡ true → nowhere ≡ found_by (runs_of sets next singles run t)
  table_nowhere z = ap (λ (b : Bool). cond b nowhere (stuck_after runs.looked)) (sym z) ∙ by_table

  pub table_after : left ≡ false → stuck_after runs.looked ≡ found_by (runs_of sets next singles run t)
  table_after z = ap (λ (b : Bool). cond b nowhere (stuck_after runs.looked)) (sym z) ∙ by_table

-- a chunk without marks is its own text
unmarked_found : (w : List ℕ) → marked w ≡ false → (left : Bool) (b : ℕ) → b ≤ length w
    → cond left nowhere (stuck_after b) ≡ in_chunk w (cond left nowhere (stuck_after b))
unmarked_found w e true b l = refl
unmarked_found w e false b l = ap stuck_after (sym (position_claims.unmarked w b e l))

-- a chunk with marks
pub marked_found : (w : List ℕ) (r s u : Spot) → r ≡ in_chunk w s → s ≡ u → r ≡ in_chunk w u
marked_found w r s u a b = a ∙ ap (in_chunk w) b

-- ---- a text
module _ (sets next singles : List ℕ) (run k : ℕ) (gap : Bool) (t : List ℕ) where
  pub text_13 : foreign t k ≡ true → refused_for 13 ≡ text_spot sets next singles run k gap t
  unfolding text_spot
  text_13 e = rw e

  pub text_23 : foreign t k ≡ false → gap ≡ true → refused_for 23 ≡ text_spot sets next singles run k gap t
  unfolding text_spot
  text_23 e g = rw (e, g)

  pub text_found : foreign t k ≡ false → gap ≡ false → (s : Spot) → s ≡ found_by (runs_of sets next singles run t) → s ≡ text_spot sets next singles run k gap t
  unfolding text_spot
  text_found e g s is = rw (e, g) is

  -- ---- the same of a chunk without marks
  text_chunk : marked t ≡ false → text_spot sets next singles run k gap t ≡ in_chunk t (text_spot sets next singles run k gap t)
  unfolding text_spot
  text_chunk e =
      let runs = runs_of sets next singles run t in
      refused_same (foreign t k) gap (found_by runs)
      (unmarked_found t e (some_left runs.ends) runs.looked (looked_within sets next singles run t))
    where
      refused_same : (f g : Bool) (s : Spot) → s ≡ in_chunk t s
          → cond f (refused_for 13) (cond g (refused_for 23) s) ≡ in_chunk t (cond f (refused_for 13) (cond g (refused_for 23) s))
      refused_same true g s e = refl
      refused_same false true s e = refl
      refused_same false false s e = e

  pub unmarked_text : marked t ≡ false → text_spot sets next singles run k gap t ≡ in_chunk t (text_spot sets next singles run k gap (text_of t))
  unmarked_text e = text_chunk e ∙ ap (λ (u : List ℕ). in_chunk t (text_spot sets next singles run k gap u)) (sym ((marks.claims).unmarked t e))

-- ---- the ways out of `locate`
by_number : (w : List ℕ) (f g : Bool) (s : Spot) → in_chunk w (cond f (refused_for 13) (cond g (refused_for 23) s)) ≡ spot_by (cond f (some 13) (cond g (some 23) none)) (in_chunk w s)
by_number w true g s = refl
by_number w false true s = refl
by_number w false false s = refl

module _ (j : Judge) (p : ℕ) (w : List ℕ) where
  pub locate_21 : j.board.places ≡ 0 → refused_for 21 ≡ spot_of j p w
  unfolding spot_of
  locate_21 a = rw (eq-eqb _ _ a)

  module _ (a : j.board.places ≡ 0 → ⊥) (places : ℕ) (are-places : places ≡ places_of j.board) where
    pub locate_11 : places ≤ p → refused_for 11 ≡ spot_of j p w
    unfolding spot_of
    locate_11 b = rw (ne_eqb _ _ a, ← are-places, le-leb _ _ b)

    pub locate_12 : p < places → 65536 < length w → refused_for 12 ≡ spot_of j p w
    unfolding spot_of
    locate_12 b c = rw (ne_eqb _ _ a, ← are-places, lt-leb _ _ b, lt-ltb _ _ c)

    pub located : p < places → length w ≤ 65536 → (gap : Bool) → gap ≡ any_below (is_empty j.board) p
        → (from : ℕ) → from ≡ join_up_to j.board.ends j.built.delegates j.built.n j.built.initials p
        → (starts : ℕ) → starts ≡ delegate_mask j.built.delegates j.built.n from
        → (live : ℕ) → live ≡ live_set j.built.delegates (min j.built.n 32)
        → (s : Spot)
        → s ≡ in_chunk w (text_spot j.built.sets (pruned j.built.sets j.built.next live j.built.setcount) j.built.singles starts j.built.k gap (text_of w))
        → s ≡ spot_of j p w
    unfolding spot_of text_spot
    located within c gap is from joined starts are live lives s e =
        let b = j.built in
        let found : Spot = found_by (runs_of b.sets (pruned b.sets b.next live b.setcount) b.singles starts (text_of w)) in
        let same : found ≡ spot_in b (join_up_to j.board.ends b.delegates b.n b.initials p) (text_of w) =
        ap₂ (λ (x : ℕ) (y : ℕ). found_by (runs_of b.sets (pruned b.sets b.next x b.setcount) b.singles y (text_of w)))
        lives
        (are ∙ ap (delegate_mask b.delegates b.n) joined) in
        rw (ne_eqb _ _ a, ← are-places, lt-leb _ _ within, le-ltb _ _ c, ← is)
        (e ∙ by_number w (foreign (text_of w) b.k) gap found ∙ ap (λ (x : Spot). spot_by (cond (foreign (text_of w) b.k) (some 13) (cond gap (some 23) none)) (in_chunk w x)) same)

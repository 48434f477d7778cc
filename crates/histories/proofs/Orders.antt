-- Deliveries in any order leave the same judge (R-11), as specs/Orders.antt claims. Assumes nothing.
--
-- A delivery changes the board alone, as `offered` of crates/board does: by whether the chunk fits,
-- which the board's contents do not decide, and by whether its revision comes late. So two that
-- follow each other may be exchanged, and any order is reached by such exchanges.
use mathlib.Core.Path.{◌≡◌, refl, sym, ap, ◌∙◌}
use mathlib.Core.Bool.{Bool, true, false, cond, not, ◌&&◌}
use mathlib.Core.List.{List, [], ◌∷◌}
use Prim.Native.Nat.{ℕ, ◌<◌, min}
use native.Mathlib.Omega.{arith}
use lib.Dec.{eqb, ltb, leb}
use lib.ListN.{length}
use borrow.Author.Tests.{leb-false}
use Rattle.base.specs.Conditions.{on, first_of}
use Rattle.base.specs.Options.{is_none}
use Rattle.base.proofs.Conditions.{none_law}
use Rattle.base.proofs.Options.{is-none}
use Rattle.base.proofs.Tests.{by_test}
use Rattle.executions.specs.Executions.{state_after}
use Rattle.marks.specs.Marks.{text_of}
use Rattle.chunks.specs.Chunks.{foreign}
use Rattle.chunks.specs.declared.Runs.{Runs}
use Rattle.board.specs.declared.Board.{Board}
use Rattle.board.specs.Boards.{places_of, comes_late, filled_at}
use Rattle.board.proofs.Laws.{Sized}
use Rattle.board.proofs.Orders.{offered, commutes}
use Rattle.calls.specs.declared.Judge.{Judge}
use Rattle.calls.specs.Replies.{Reply, delivered}
use Rattle.calls.specs.Calls.{Call, deliver_conditions}
use Rattle.calls.specs.mirror.Steps.{lacks_board, with_board, outcome_by, runs_at, deliver_of}
use Rattle.histories.specs.Claims.{judge_after}
use Rattle.histories.specs.Orders.{Delivery, delivering, Reordered, nothing, same, swapped, after, Apart, ApartFrom, NoneTwice, Orders}
use Rattle.histories.proofs.EveryList.{good}

-- ---- one delivery
module _ (j : Judge) (d : Delivery) where
  -- the chunk fits, whatever its revision
  abbrev fits : Bool
  fits = is_none (first_of (deliver_conditions (lacks_board j) (places_of j.board) d.place d.chunk j.built.k false))

  fits_below : fits ≡ true → d.place < 64
  fits_below e =
      let cs = deliver_conditions (lacks_board j) (places_of j.board) d.place d.chunk j.built.k false in
      let x = (none_law cs).0 ((is-none (first_of cs)).0 e) in
      omega (arith, leb-false (places_of j.board) d.place x.1.0)

  abbrev leaves : Judge
  leaves = with_board j (offered fits j.board d.place d.revision (runs_at j d.place d.chunk))

  -- four tests, and then whether it comes late
  by_tests : (a b c e late : Bool) (reply : Reply) (next : Board)
      → (outcome_by (first_of (on 21 a ∷ on 11 b ∷ on 12 c ∷ on 13 e ∷ on 22 late ∷ [])) reply j (with_board j next)).state
      ≡ with_board j (cond (is_none (first_of (on 21 a ∷ on 11 b ∷ on 12 c ∷ on 13 e ∷ on 22 false ∷ [])) && not late) next j.board)
  by_tests true b c e late reply next = refl
  by_tests false true c e late reply next = refl
  by_tests false false true e late reply next = refl
  by_tests false false false true late reply next = refl
  by_tests false false false false true reply next = refl
  by_tests false false false false false reply next = refl

  state-is : (deliver_of j d.place d.revision d.chunk).state ≡ leaves
  unfolding deliver_of
  state-is =
      by_tests (lacks_board j) (leb (places_of j.board) d.place) (ltb 65536 (length d.chunk)) (foreign (text_of d.chunk) j.built.k)
      (comes_late j.board d.place d.revision)
      (delivered (runs_at j d.place d.chunk).looked)
      (filled_at j.board d.place d.revision (runs_at j d.place d.chunk))

-- the board keeps its places, and its arrays their lengths
offered_places : (f : Bool) (b : Board) (p v : ℕ) (s : Runs) → (offered f b p v s).places ≡ b.places
unfolding filled_at
offered_places f b p v s = by_test (f && not (comes_late b p v)) (λ e. rw e) (λ e. rw e)

-- ---- two that follow each other
module _ (j : Judge) (sized : Sized j.board) (d e : Delivery) where
  abbrev first_board : Board
  first_board = offered (fits j d) j.board d.place d.revision (runs_at j d.place d.chunk)

  -- whether e fits is not changed by d
  fits_after : fits (leaves j d) e ≡ fits j e
  fits_after =
      ap (λ (n : ℕ). is_none (first_of (deliver_conditions (eqb n 0) (min n 64) e.place e.chunk j.built.k false)))
      (offered_places (fits j d) j.board d.place d.revision (runs_at j d.place d.chunk))

  both : (deliver_of (deliver_of j d.place d.revision d.chunk).state e.place e.revision e.chunk).state
      ≡ with_board j (offered (fits j e) first_board e.place e.revision (runs_at j e.place e.chunk))
  both =
      ap (λ (k : Judge). (deliver_of k e.place e.revision e.chunk).state) (state-is j d)
      ∙ state-is (leaves j d) e
      ∙ ap (λ (f : Bool). with_board j (offered f first_board e.place e.revision (runs_at j e.place e.chunk))) fits_after

exchanged : (j : Judge) → Sized j.board → (d e : Delivery) → Apart d e
    → (deliver_of (deliver_of j d.place d.revision d.chunk).state e.place e.revision e.chunk).state
    ≡ (deliver_of (deliver_of j e.place e.revision e.chunk).state d.place d.revision d.chunk).state
exchanged j sized d e apart =
    both j sized d e
    ∙ ap (with_board j)
    (commutes j.board sized (fits j d) (fits j e) d.place e.place d.revision e.revision
    (runs_at j d.place d.chunk) (runs_at j e.place e.chunk)
    (fits_below j d) (fits_below j e) apart)
    ∙ sym (both j sized e d)

-- ---- no place has a revision twice, in any order
apart_back : (d e : Delivery) → Apart d e → Apart e d
apart_back d e a p v = a (sym p) (sym v)

from_same : (d : Delivery) {ds es : List Delivery} → Reordered ds es → ApartFrom d ds → ApartFrom d es
from_same d nothing a = tt
from_same d (same x r) a = (a.0, from_same d r a.1)
from_same d (swapped x y) a = (a.1.0, (a.0, a.1.1))
from_same d (after r s) a = from_same d s (from_same d r a)

once_same : {ds es : List Delivery} → Reordered ds es → NoneTwice ds → NoneTwice es
once_same nothing n = tt
once_same (same d r) n = (from_same d r n.0, once_same r n.1)
once_same (swapped d e) n = ((apart_back d e n.0.0, n.1.0), (n.0.1, n.1.1))
once_same (after r s) n = once_same s (once_same r n)

-- ---- any order
pub orders : (h : List Call) → Orders h
unfolding state_after
orders h ds es nothing n = refl
orders h ds es (same d {ds = ds'} {es = es'} r) n =
    ap (λ (j : Judge). (deliver_of j d.place d.revision d.chunk).state) (orders h ds' es' r n.1)
orders h ds es (swapped d e {ds = ds'}) n =
    let k = delivering ds' h in
    exchanged (judge_after k) (good k).sized e d (apart_back d e n.0.0)
orders h ds es (after {ds = ds'} {es = es'} {fs = fs'} r s) n = orders h ds' es' r n ∙ orders h es' fs' s (once_same r n)

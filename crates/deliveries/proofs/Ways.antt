-- Each way out of `attempt_of`, and each way from an attempt to the outcome of a delivery. Assumes
-- nothing.
--
--   foreign_text, late_text, text_run   attempt_of
--   refused_attempt, kept_attempt       deliver_of, once 21, 11 and 12 do not hold
use mathlib.Core.Path.{◌≡◌, refl, sym, ap, ◌∙◌}
use mathlib.Core.Bool.{Bool, true, false}
use mathlib.Core.List.{List}
use Rattle.std.proofs.Common.{Result, Ok, Err}
use Rattle.base.specs.declared.Refusal.{Refusal}
use Rattle.base.specs.Answers.{refusal_number}
use Prim.Native.Nat.{ℕ, ◌+◌, ◌≤◌, ◌<◌}
use lib.ListN.{length, get_or, set}
use Rattle.base.proofs.Tests.{by_test, zero_one}
use Rattle.chunks.specs.declared.Runs.{Runs}
use Rattle.chunks.specs.Chunks.{foreign}
use Rattle.chunks.specs.mirror.Walks.{run_mask, runs_of}
use Rattle.marks.specs.Marks.{text_of}
use Rattle.board.specs.Boards.{places_of, comes_late, row_set, filled_at}
use Rattle.calls.specs.declared.Judge.{Judge}
use Rattle.calls.specs.Replies.{refused, delivered, Outcome}
use Rattle.calls.specs.mirror.Steps.{with_board, deliver_of}
use Rattle.calls.proofs.Ways as ways
use Rattle.deliveries.specs.mirror.Attempts.{Attempted, attempt_means, refused_with, ran_to, attempt_of}

module _ (sets next singles : List ℕ) (mask k : ℕ) (late : Bool) (t : List ℕ) (f : Bool) (has : f ≡ foreign t k) where
  pub foreign_text : f ≡ true → (r : Attempted) → r ≡ refused_with 13 → r ≡ attempt_of sets next singles mask k late t
  unfolding attempt_of
  foreign_text d r e = e ∙ rw (← has, d)

  module _ (d : f ≡ false) where
    pub late_text : late ≡ true → (r : Attempted) → r ≡ refused_with 22 → r ≡ attempt_of sets next singles mask k late t
    unfolding attempt_of
    late_text g r e = e ∙ rw (← has, d, g)

    pub text_run : late ≡ false → (runs : Runs) → runs ≡ runs_of sets next singles mask t → ran_to runs ≡ attempt_of sets next singles mask k late t
    unfolding attempt_of
    text_run g runs ran = rw (← has, d, g, ran)

-- a place that the board has, a chunk that is not too long, and what came of running it
module _ (j : Judge) (p v : ℕ) (w : List ℕ) (a : j.board.places ≡ 0 → ⊥) (n : ℕ) (places : n ≡ places_of j.board) (b : p < n) (c : length w ≤ 65536)
    (mask : ℕ) (masked : mask ≡ run_mask j.built.delegates j.built.n j.built.initials p)
    (late : Bool) (comes : late ≡ comes_late j.board p v)
    (t : Result Runs Refusal) (came : attempt_means t ≡ attempt_of j.built.sets j.built.next j.built.singles mask j.built.k late (text_of w)) where
  abbrev ran : Runs
  ran = runs_of j.built.sets j.built.next j.built.singles mask (text_of w)

  came_foreign : foreign (text_of w) j.built.k ≡ true → attempt_means t ≡ refused_with 13
  unfolding attempt_of
  came_foreign f = came ∙ rw f

  module _ (f : foreign (text_of w) j.built.k ≡ false) where
    came_late : late ≡ true → attempt_means t ≡ refused_with 22
    unfolding attempt_of
    came_late g = came ∙ rw (f, g)

    came_run : late ≡ false → attempt_means t ≡ ran_to ran
    unfolding attempt_of
    came_run g = came ∙ rw (f, g)

  pub refused_attempt : (refusal : Refusal) → t ≡ Err refusal
      → (r : Outcome) → r ≡ record { reply = refused (refusal_number refusal); state = j } → r ≡ deliver_of j p v w
  refused_attempt refusal told r e =
      let said : refused_with (refusal_number refusal) ≡ attempt_means t = sym (ap attempt_means told) in
      by_test (foreign (text_of w) j.built.k)
      (λ f.
      let is : refused (refusal_number refusal) ≡ refused 13 = ap (λ (a : Attempted). a.reply) (said ∙ came_foreign f) in
      let thirteen : refusal_number refusal ≡ 13 = cc in
      ways.deliver_13 j p v w a n places b c (text_of w) refl _ refl f r (e ∙ rw thirteen))
      (λ f.
      by_test late
      (λ g.
      let is : refused (refusal_number refusal) ≡ refused 22 = ap (λ (a : Attempted). a.reply) (said ∙ came_late f g) in
      let twenty-two : refusal_number refusal ≡ 22 = cc in
      ways.deliver_22 j p v w a n places b c (text_of w) refl _ refl f late comes g r (e ∙ rw twenty-two))
      (λ g.
      let is : refused (refusal_number refusal) ≡ delivered ran.looked = ap (λ (a : Attempted). a.reply) (said ∙ came_run f g) in
      zero_one cc))

  -- the place is filled cell by cell
  pub kept_attempt : (runs : Runs) → t ≡ Ok runs
      → (f : List ℕ) → f ≡ set j.board.filled p 1
      → (counts : List ℕ) → counts ≡ set j.board.counts p runs.count
      → (lengths : List ℕ) → lengths ≡ set j.board.lengths p runs.bytes
      → (revisions : List ℕ) → revisions ≡ set j.board.revisions p (v + 1)
      → (ends : List ℕ) → ends ≡ row_set j.board.ends p (λ q. get_or runs.ends q 0)
      → record {
        reply = delivered runs.looked;
        state = with_board j record { places = j.board.places; filled = f; counts = counts; lengths = lengths; revisions = revisions; ends = ends };
      } ≡ deliver_of j p v w
  unfolding filled_at
  kept_attempt runs told f hf counts hc lengths hl revisions hr ends he =
      let said : ran_to runs ≡ attempt_means t = sym (ap attempt_means told) in
      by_test (foreign (text_of w) j.built.k)
      (λ f.
      let is : delivered runs.looked ≡ refused 13 = ap (λ (a : Attempted). a.reply) (said ∙ came_foreign f) in
      zero_one cc)
      (λ f.
      by_test late
      (λ g.
      let is : delivered runs.looked ≡ refused 22 = ap (λ (a : Attempted). a.reply) (said ∙ came_late f g) in
      zero_one cc)
      (λ g.
      let is : runs ≡ ran = ap (λ (a : Attempted). a.runs) (said ∙ came_run f g) in
      rw (hf, hc, hl, hr, he)
      (ways.delivered j p v w a n places b c (text_of w) refl _ refl f late comes g runs (is ∙ rw masked) _ refl _ refl)))

-- A delivery with and without its idle marks comes to the same, but for 12 (document 02, R-5): its
-- outcome is by the test of 12 and the text, and the text of a text is itself. Assumes nothing.
use mathlib.Core.Path.{◌≡◌, refl, sym, ap₂, ◌∙◌}
use mathlib.Core.Logic.{◌⊎◌, inl, inr}
use mathlib.Core.Bool.{Bool, true, false, cond}
use mathlib.Core.List.{List}
use mathlib.Core.Option.{Option, none, some}
use Prim.Native.Nat.{ℕ}
use native.Mathlib.Omega.{arith}
use lib.Dec.{ltb, leb}
use lib.ListN.{length}
use borrow.Author.Tests.{lt-ltb, le-ltb}
use Rattle.limits.specs.Limits.{longest_chunk}
use Rattle.marks.specs.Marks.{text_of}
use Rattle.marks.proofs.Claims as marks
use Rattle.base.proofs.Tests.{by_test}
use Rattle.chunks.specs.declared.Runs.{Runs}
use Rattle.chunks.specs.Chunks.{foreign}
use Rattle.chunks.specs.mirror.Walks.{run_mask, runs_of}
use Rattle.board.specs.Boards.{places_of, comes_late, filled_at}
use Rattle.calls.specs.declared.Judge.{Judge}
use Rattle.calls.specs.Replies.{delivered, Outcome}
use Rattle.calls.specs.mirror.Steps.{lacks_board, with_board, outcome_by, deliver_of}
use Rattle.calls.specs.Claims.{MarksSkipped}

-- the text of a text is itself
text_once : (w : List ℕ) → text_of (text_of w) ≡ text_of w
text_once w = (marks.claims).unmarked (text_of w) ((marks.claims).text_unmarked w)

module _ (j : Judge) (p v : ℕ) where
  runs : List ℕ → Runs
  runs text =
      runs_of j.built.sets j.built.next j.built.singles (run_mask j.built.delegates j.built.n j.built.initials p) text

  -- the number: `long` says whether 12 holds
  number : Bool → List ℕ → Option ℕ
  number long text =
      cond (lacks_board j) (some 21)
      (cond (leb (places_of j.board) p) (some 11)
      (cond long (some 12) (cond (foreign text j.built.k) (some 13) (cond (comes_late j.board p v) (some 22) none))))

  outcome : Bool → List ℕ → Outcome
  outcome long text =
      outcome_by (number long text) (delivered (runs text).looked) j (with_board j (filled_at j.board p v (runs text)))

  outcome_is : (w : List ℕ) → deliver_of j p v w ≡ outcome (ltb longest_chunk (length w)) (text_of w)
  unfolding deliver_of outcome number runs
  outcome_is w = refl

  -- with 12 the text does not matter
  long_number : (text : List ℕ) → (x : ℕ) × (number true text ≡ some x) × ((x ≡ 21) ⊎ (x ≡ 11) ⊎ (x ≡ 12))
  unfolding number
  long_number text =
      by_test (lacks_board j)
      (λ t. (21, rw t, inl refl))
      (λ t.
      by_test (leb (places_of j.board) p)
      (λ u. (11, rw (t, u), inr (inl refl)))
      (λ u. (12, rw (t, u), inr (inr refl))))

  pub marks_skipped : (w : List ℕ) → MarksSkipped j p v w
  unfolding outcome
  marks_skipped w = record {
    within = λ l.
        let short : ltb longest_chunk (length w) ≡ false = le-ltb longest_chunk (length w) l in
        let text-short : ltb longest_chunk (length (text_of w)) ≡ false =
        le-ltb longest_chunk (length (text_of w)) (omega (arith, l, (marks.claims).no_longer w)) in
        outcome_is w ∙ ap₂ outcome (short ∙ sym text-short) (sym (text_once w)) ∙ sym (outcome_is (text_of w));
    too_long = λ l.
        let long : ltb longest_chunk (length w) ≡ true = lt-ltb longest_chunk (length w) l in
        let x = long_number (text_of w) in
        let is : number (ltb longest_chunk (length w)) (text_of w) ≡ some x.0 = rw long x.1 in
        (x.0, outcome_is w ∙ rw is, x.2);
  }

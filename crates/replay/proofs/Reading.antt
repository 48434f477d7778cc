-- One line of a record. Assumes nothing.
--
--   stays_malformed      what follows a malformed line is of no matter
--   malformed_line_lem   a line that is answered `malformed` is
--   read_on_lem          any other line adds what it calls to the list, or begins a new one
--   lines_on             the lines of a text from an index on
use mathlib.Core.Path.{◌≡◌, refl, sym, ap, ap₂, ◌∙◌}
use mathlib.Core.Bool.{true, false, true≢false}
use mathlib.Core.List.{List, [], ◌∷◌}
use Prim.Native.Nat.{ℕ, suc, ◌+◌, ◌-◌, ◌≤◌, ◌<◌, min}
use native.Mathlib.Numerals.{add-one}
use native.Mathlib.Omega.{arith}
use lib.ListN.{length, take, drop, drop_of_length-le}
use lib.Seq.{drop-drop, drop-length}
use borrow.Author.Tests.{ltb-true, ltb-false}
use lib.Dec.{ltb}
use Rattle.base.proofs.Tests.{by_test}
use Rattle.lines.specs.Splitting.{up_to, last_line, lines_from, lines_of}
use Rattle.lines.proofs.Splits.{up_whole, lines_there, lines_last}
use Rattle.lines.proofs.Parts.{part-rest, part_is}
use Rattle.executions.specs.Executions.{state_after}
use Rattle.calls.specs.declared.Judge.{Judge}
use Rattle.calls.specs.Calls.{Call}
use Rattle.calls.specs.mirror.Steps.{fresh, report_of, step_of}
use Rattle.histories.specs.Claims.{judge_after}
use Rattle.histories.proofs.EveryList.{report_after}
use Rattle.calltext.specs.Meaning.{Meaning, again, call, malformed, line_in}
use Rattle.calltext.specs.Answers.{is_malformed, answer_means}
use Rattle.callrun.specs.declared.LineRun.{LineRun}
use Rattle.callrun.specs.Running.{LineOutcome, line_step, run_outcome}
use Rattle.replay.specs.Records.{Recorded, calls, malformed_at, read_on, read_lines, record_in, ReplayReply, verdict, malformed_line, replay_of}

pub stays_malformed : (k i : ℕ) (lines : List (List ℕ)) → read_lines (malformed_at k) i lines ≡ malformed_at k
unfolding read_lines
stays_malformed k i [] = refl
stays_malformed k i (line ∷ lines) = stays_malformed k (suc i) lines

-- ---- what a line came to
pub malformed_line_lem : (j : Judge) (m : Meaning) → is_malformed (line_step j m).response ≡ true → m ≡ malformed
malformed_line_lem j again e = absurd (true≢false (sym e))
malformed_line_lem j (call c) e = absurd (true≢false (sym e))
malformed_line_lem j malformed e = refl

-- the calls of the record so far, and a judge that they leave
pub record Read (so : Recorded) (j : Judge) : Type 0 where
  pub history : List Call
  pub ran : j ≡ judge_after history
  pub is : so ≡ calls history

pub read_on_lem : (i : ℕ) (h : List Call) (j : Judge) (m : Meaning) → j ≡ judge_after h → is_malformed (line_step j m).response ≡ false
    → Read (read_on i h m) (line_step j m).state
unfolding state_after
read_on_lem i h j again ran e = record { history = []; ran = refl; is = refl }
read_on_lem i h j (call c) ran e = record { history = c ∷ h; ran = ap (λ (x : Judge). (step_of x c).state) ran; is = refl }
read_on_lem i h j malformed ran e = absurd (true≢false e)

-- ---- the lines of a text from an index on
last-is : (v : List ℕ) → 0 < length v → last_line v ≡ v ∷ []
last-is [] h = absurd (omega arith)
last-is (x ∷ v) h = refl

module _ (w : List ℕ) (at end : ℕ) (here : at < length w) (found : end ≡ at + length (up_to 10 (drop at w))) where
  rest : length (drop at w) + at ≡ length w
  rest = part-rest w at end here found

  next_line : end < length w → lines_of (drop at w) ≡ up_to 10 (drop at w) ∷ lines_of (drop (end + 1) w)
  next_line l =
      let m = length (up_to 10 (drop at w)) in
      let e : at + suc m ≡ end + 1 = omega (arith, found) in
      lines_there (drop at w) [] (omega (arith, rest, found))
      ∙ ap (λ (v : List ℕ). up_to 10 (drop at w) ∷ lines_of v) (drop-drop (suc m) at w ∙ ap (λ (n : ℕ). drop n w) e)

  last_line_lem : length w ≤ end → lines_of (drop at w) ≡ up_to 10 (drop at w) ∷ lines_of (drop (length w) w)
  unfolding lines_from
  last_line_lem l =
      let more : length (drop at w) ≤ length (up_to 10 (drop at w)) = omega (arith, rest, found) in
      lines_last (drop at w) [] more
      ∙ last-is (drop at w) (omega (arith, rest))
      ∙ ap₂ (λ (v : List ℕ) (x : List (List ℕ)). v ∷ x) (sym (up_whole 10 (drop at w) more)) (sym (ap lines_of (drop-length w)))

  -- the next line begins behind the line feed, or nowhere
  pub lines_on : (to : ℕ) → to ≡ min (end + 1) (length w) → lines_of (drop at w) ≡ take (end - at) (drop at w) ∷ lines_of (drop to w)
  lines_on to e =
      by_test (ltb end (length w))
      (λ t.
      let l = ltb-true end (length w) t in
      let is : to ≡ end + 1 = omega arith in
      rw (part_is w at end here found, is) (next_line l))
      (λ t.
      let l = ltb-false end (length w) t in
      let is : to ≡ length w = omega arith in
      rw (part_is w at end here found, is) (last_line_lem l))

-- ---- the loop: the lines before `at` were read and run, and what follows is still to be read
pub record Going (w : List ℕ) (j : Judge) (line at : ℕ) : Type 0 where
  pub history : List Call
  pub ran : j ≡ judge_after history
  pub is : record_in w ≡ read_lines (calls history) (suc line) (lines_of (drop at w))

pub going_first : (w : List ℕ) (j : Judge) → j ≡ fresh → Going w j 0 0
unfolding state_after
going_first w j e = record { history = []; ran = e; is = refl }

module _ (w : List ℕ) (j : Judge) (line at : ℕ) (going : Going w j line at) where
  -- the end
  pub going_last : length w ≤ at → (t : ReplayReply) → t ≡ verdict (report_of j) → t ≡ replay_of (record_in w)
  unfolding read_lines lines_from
  going_last l t e =
      let is : record_in w ≡ calls going.history = going.is ∙ ap (λ (v : List ℕ). read_lines (calls going.history) (suc line) (lines_of v)) (drop_of_length-le w l) in
      e ∙ ap verdict (ap report_of going.ran ∙ report_after going.history) ∙ ap replay_of (sym is)

  module _ (end : ℕ) (here : at < length w) (found : end ≡ at + length (up_to 10 (drop at w))) (r : LineRun)
      (steps : run_outcome r ≡ line_step j (line_in (take (end - at) (drop at w)))) where
    on_line : (next_at_lem : ℕ) → next_at_lem ≡ min (end + 1) (length w)
        → record_in w ≡ read_lines (read_on (suc line) going.history (line_in (take (end - at) (drop at w)))) (suc (suc line)) (lines_of (drop next_at_lem w))
    unfolding read_lines
    on_line next_at_lem e = going.is ∙ ap (read_lines (calls going.history) (suc line)) (lines_on w at end here found next_at_lem e)

    -- a malformed line
    pub going_wrong : is_malformed (answer_means r.answer) ≡ true → (t : ReplayReply) → t ≡ malformed_line (line + 1) → t ≡ replay_of (record_in w)
    going_wrong bad t e =
        let rest = lines_of (drop (min (end + 1) (length w)) w) in
        let m = malformed_line_lem j (line_in (take (end - at) (drop at w))) (sym (ap (λ (o : LineOutcome). is_malformed o.response) steps) ∙ bad) in
        let is : record_in w ≡ malformed_at (suc line) =
        on_line (min (end + 1) (length w)) refl
        ∙ ap (λ (x : Meaning). read_lines (read_on (suc line) going.history x) (suc (suc line)) rest) m
        ∙ stays_malformed (suc line) (suc (suc line)) rest in
        e ∙ ap malformed_line (add-one line) ∙ ap replay_of (sym is)

    -- any other line
    pub going_on : is_malformed (answer_means r.answer) ≡ false → (next_at_lem : ℕ) → next_at_lem ≡ min (end + 1) (length w) → Going w r.judge (line + 1) next_at_lem
    going_on good next_at_lem e =
        let m = line_in (take (end - at) (drop at w)) in
        let so = read_on_lem (suc line) going.history j m going.ran (sym (ap (λ (o : LineOutcome). is_malformed o.response) steps) ∙ good) in
        record {
          history = so.history;
          ran = ap (λ (o : LineOutcome). o.state) steps ∙ so.ran;
          is =
              on_line next_at_lem e
              ∙ ap₂ (λ (x : Recorded) (i : ℕ). read_lines x (suc i) (lines_of (drop next_at_lem w))) so.is (sym (add-one line));
        }

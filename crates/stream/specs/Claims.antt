-- Every text is answered right, however it is cut into blocks, and in however many rounds a block is
-- fed; proofs/Claimed.antt proves the claims. What feeding, rounds and blocks are is said of any
-- machine in `linetexts`.
use Rattle.std.specs.Prelude.{◌≡◌, false, ℕ, ◌≤◌, length}
use mathlib.Core.List.{List, [], ◌∷◌, ◌++◌, flatten}
use Rattle.std.proofs.Math.Option.{some}
use Rattle.limits.specs.Limits.{line_room}
use Rattle.lines.specs.Splitting.{lines_of}
use Rattle.calls.specs.declared.Judge.{Judge}
use Rattle.calls.specs.Calls.{Call}
use Rattle.calls.specs.mirror.Steps.{fresh}
use Rattle.longlines.specs.Holding.{line_begin}
use Rattle.linetexts.specs.Feeding.{State, finish_of}
use Rattle.linetexts.specs.Beginnings.{Beginning, state_of, Told}
use Rattle.linetexts.specs.Lists.{Listed, list_of, NoneEmpty, skipped_lines, list_teller}
use Rattle.linetexts.specs.Claims.{lines_step, stream_of, Blocks}
use Rattle.calltext.specs.Meaning.{malformed}
use Rattle.calltext.specs.Answers.{unread, response_text}
use Rattle.questions.specs.Meaning.{Question, diagnoses, locates, question, recorded, meaning_in}
use Rattle.questions.specs.Answers.{finding_text, spot_text}
use Rattle.diagnoses.specs.Diagnosing.{Finding}
use Rattle.locating.specs.Locating.{Spot}
use Rattle.losses.specs.Losses.{Diagnosed}
use Rattle.losses.specs.Spots.{Spotted}
use Rattle.stream.specs.Worked.{cut_text, cut_answers}
use Rattle.stream.specs.Texts.{call_lines, right_to, right_answer, calls_after, right_text, call_list}

pub record Claims : Type 0 where
  -- a longer line is told by its beginning, and by whether the rest is hex digits and how many
  pub told : Told (list_teller call_list)
  -- every answer is the right one after the calls before it
  pub right : (ls : List (List ℕ)) → (lines_step call_lines (list_of fresh false) ls).text ≡ right_text (some []) ls
  -- a question is answered with what the list of calls says of the trace, whatever else is in the
  -- text, and changes nothing
  pub question_right : (h : List Call) (l : List ℕ) (q : Question) → meaning_in l ≡ question q
      → (right_answer h l ≡ right_to h q) × (calls_after h l ≡ some h)
  pub diagnose_right : (h : List Call) (f : Finding) → Diagnosed h f → right_to h diagnoses ≡ finding_text f
  pub locate_right : (h : List Call) (p : ℕ) (w : List ℕ) (s : Spot) → Spotted h p w s → right_to h (locates p w) ≡ spot_text s
  -- after a malformed line no call is made and no verdict given: each line is answered `skipped`, up to
  -- an empty line, which begins afresh
  pub ends_list : (h : List Call) (l : List ℕ) (ls : List (List ℕ)) → meaning_in l ≡ recorded malformed → NoneEmpty ls
      → right_text (some h) (l ∷ ls) ≡ response_text unread ++ skipped_lines ls
  pub afresh : (h : List Call) (l : List ℕ) (ls more : List (List ℕ)) → meaning_in l ≡ recorded malformed → NoneEmpty ls
      → right_text (some h) ((l ∷ ls) ++ ([] ∷ more)) ≡ response_text unread ++ (skipped_lines ls ++ ((10 ∷ []) ++ right_text (some []) more))
  -- so does an empty line in a list that goes on, after any calls h
  pub fresh_line : (h : List Call) (ls : List (List ℕ)) → right_text (some h) ([] ∷ ls) ≡ (10 ∷ []) ++ right_text (some []) ls
  pub worked : right_text (some []) (lines_of cut_text) ≡ cut_answers
  -- what is answered to the blocks, fed one after the other, and to the end is right for the lines of
  -- the blocks joined
  pub answered : (blocks : List (List ℕ)) (line : List ℕ) → line_room ≤ length line
      → (stream_of call_lines (state_of (list_of fresh false) line_begin line) blocks).text ≡ right_text (some []) (lines_of (flatten blocks))
  -- ALL THAT IS WRITTEN, round by round, block by block, and at the end, is right
  pub written : {s' : State Beginning (Listed Judge)} {blocks : List (List ℕ)} {line text : List ℕ} → line_room ≤ length line
      → Blocks call_lines (state_of (list_of fresh false) line_begin line) blocks s' text
      → text ++ (finish_of call_lines s').text ≡ right_text (some []) (lines_of (flatten blocks))

-- Every text is answered right, however it is cut into blocks, and in however many rounds a block is
-- fed; proofs/Claimed.antt proves the claims. What feeding, rounds and blocks are is said of any
-- machine in `linetexts`.
use Rattle.std.specs.Prelude.{◌≡◌, false, ℕ, ◌+◌, ◌≤◌, length}
use mathlib.Core.List.{List, [], ◌∷◌, ◌++◌, flatten}
use Rattle.std.proofs.Math.Option.{some}
use Rattle.ruleformat.specs.Refusals.{refusal}
use Rattle.lines.specs.Splitting.{lines_of}
use Rattle.longlines.specs.Holding.{line_begin}
use Rattle.linetexts.specs.Feeding.{State, finish_of}
use Rattle.linetexts.specs.Beginnings.{Beginning, state_of, Told}
use Rattle.linetexts.specs.Lists.{Listed, list_of, NoneEmpty, skipped_lines, list_teller}
use Rattle.linetexts.specs.Claims.{lines_step, Blocks}
use Rattle.trays.specs.declared.Tray.{Tray}
use Rattle.trays.specs.Calls.{Call}
use Rattle.trays.specs.Replies.{refused}
use Rattle.trays.specs.mirror.Steps.{fresh}
use Rattle.traytext.specs.Lines.{row_file, column_file, malformed, line_in}
use Rattle.traytext.specs.Answers.{replied, unread, response_text}
use Rattle.traystream.specs.Worked.{cut_text, cut_answers}
use Rattle.traystream.specs.Texts.{tray_room, tray_lines, history_after, right_response, right_text, tray_list}

pub record Claims : Type 0 where
  -- a longer line is told by its beginning, and by whether the rest is hex digits and how many: such
  -- a file or band is refused by its length alone
  pub told : Told (list_teller tray_list)
  -- lines one after the other, from a fresh tray on: every answer is the right one after the calls
  -- before it
  pub right : (ls : List (List ℕ)) → (lines_step tray_lines (list_of fresh false) ls).text ≡ right_text (some []) ls
  -- after a malformed line no call is made and no verdict given: each line is answered `skipped`, up to
  -- an empty line, which begins afresh
  pub ends_list : (h : List Call) (l : List ℕ) (ls : List (List ℕ)) → line_in l ≡ malformed → NoneEmpty ls
      → right_text (some h) (l ∷ ls) ≡ response_text unread ++ skipped_lines ls
  pub afresh : (h : List Call) (l : List ℕ) (ls more : List (List ℕ)) → line_in l ≡ malformed → NoneEmpty ls
      → right_text (some h) ((l ∷ ls) ++ ([] ∷ more)) ≡ response_text unread ++ (skipped_lines ls ++ ((10 ∷ []) ++ right_text (some []) more))
  -- so does an empty line in a list that goes on, after any calls h
  pub fresh_line : (h : List Call) (ls : List (List ℕ)) → right_text (some h) ([] ∷ ls) ≡ (10 ∷ []) ++ right_text (some []) ls
  -- the line of a file that reading refuses is answered with its number, and is no call
  pub row_refused : (h : List Call) (f : List ℕ) (x : ℕ) → refusal f ≡ some x
      → (history_after h (row_file f) ≡ some h) × (right_response h (row_file f) ≡ replied (refused x))
  pub column_refused : (h : List Call) (f : List ℕ) (x : ℕ) → refusal f ≡ some x
      → (history_after h (column_file f) ≡ some h) × (right_response h (column_file f) ≡ replied (refused x))
  pub worked : right_text (some []) (lines_of cut_text) ≡ cut_answers
  -- ALL THAT IS WRITTEN, round by round, block by block, and at the end, is right
  pub written : {s' : State Beginning (Listed Tray)} {blocks : List (List ℕ)} {line text : List ℕ} → tray_room + 1 ≤ length line
      → Blocks tray_lines (state_of (list_of fresh false) line_begin line) blocks s' text
      → text ++ (finish_of tray_lines s').text ≡ right_text (some []) (lines_of (flatten blocks))

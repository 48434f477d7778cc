-- Every text is answered right, however it is cut into blocks, and in however many rounds a block is
-- fed; proofs/Claimed.antt proves the claims. What feeding, rounds and blocks are is said of any
-- machine in `linetexts`.
use Rattle.std.specs.Prelude.{◌≡◌, false, ℕ, ◌+◌, ◌≤◌, length}
use mathlib.Core.List.{List, [], ◌∷◌, ◌++◌, flatten}
use Rattle.std.proofs.Math.Option.{none, some}
use Rattle.lines.specs.Splitting.{lines_of}
use Rattle.longlines.specs.Holding.{line_begin}
use Rattle.linetexts.specs.Feeding.{State, finish_of}
use Rattle.linetexts.specs.Beginnings.{Beginning, state_of, Told}
use Rattle.linetexts.specs.Lists.{Listed, list_of, NoneEmpty, skipped_lines, list_teller}
use Rattle.linetexts.specs.Claims.{lines_step, Blocks}
use Rattle.mapcalls.specs.declared.MapState.{MapState}
use Rattle.mapcalls.specs.Calls.{Call, none_yet}
use Rattle.answers.specs.Answers.{malformed_text}
use Rattle.maplines.specs.Lines.{line_in}
use Rattle.mapstream.specs.Worked.{cut_text, cut_answers, calls_text, calls_answers}
use Rattle.mapstream.specs.Texts.{map_room, map_lines, right_text, map_list}

pub record Claims : Type 0 where
  -- a longer line is told by its beginning, and by whether the rest is hex digits and how many: such
  -- a file or chunk is refused by its length alone
  pub told : Told (list_teller map_list)
  -- lines one after the other, from no profile on: every answer is the right one after the calls
  -- before it
  pub right : (ls : List (List ℕ)) → (lines_step map_lines (list_of none_yet false) ls).text ≡ right_text (some []) ls
  -- after a malformed line no call is made and no verdict given: each line is answered `skipped`, up to
  -- an empty line, which begins afresh
  pub ends_list : (h : List Call) (l : List ℕ) (ls : List (List ℕ)) → line_in l ≡ none → NoneEmpty ls
      → right_text (some h) (l ∷ ls) ≡ malformed_text ++ skipped_lines ls
  pub afresh : (h : List Call) (l : List ℕ) (ls more : List (List ℕ)) → line_in l ≡ none → NoneEmpty ls
      → right_text (some h) ((l ∷ ls) ++ ([] ∷ more)) ≡ malformed_text ++ (skipped_lines ls ++ ((10 ∷ []) ++ right_text (some []) more))
  pub worked : right_text (some []) (lines_of cut_text) ≡ cut_answers
  pub worked_calls : right_text (some []) (lines_of calls_text) ≡ calls_answers
  -- ALL THAT IS WRITTEN, round by round, block by block, and at the end, is right
  pub written : {s' : State Beginning (Listed MapState)} {blocks : List (List ℕ)} {line text : List ℕ} → map_room + 1 ≤ length line
      → Blocks map_lines (state_of (list_of none_yet false) line_begin line) blocks s' text
      → text ++ (finish_of map_lines s').text ≡ right_text (some []) (lines_of (flatten blocks))

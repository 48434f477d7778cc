-- The claims of specs/Claims.antt. Assumes nothing.
use mathlib.Core.Path.{◌≡◌, refl, ap, ◌∙◌}
use mathlib.Core.Bool.{false}
use mathlib.Core.List.{List, [], ◌∷◌, ◌++◌, flatten}
use mathlib.Core.Option.{Option, none, some}
use Prim.Native.Nat.{ℕ}
use Rattle.executions.specs.Executions.{state_after}
use Rattle.fields.specs.Bytes.{hex_value, all_hex, parse_bytes}
use Rattle.lines.specs.Splitting.{begins, lines_from, lines_of}
use Rattle.answers.specs.Answers.{malformed_text}
use Rattle.linetexts.specs.Lists.{list_of, list_text, skipped_lines, list_teller}
use Rattle.linetexts.specs.Claims.{lines_step}
use Rattle.linetexts.proofs.Lists.{Agrees, Follows, lists_right, ends_list as ends}
use Rattle.linetexts.proofs.Claimed as linetexts
use Rattle.linetexts.proofs.Beginnings.{begun, keeps_lines}
use Rattle.mapcalls.specs.Calls.{Call, none_yet, map_machine, reply_of, next_of}
use Rattle.mapcalls.specs.Histories.{last_built, right_reply}
use Rattle.mapcalls.proofs.Histories as mapcalls
use Rattle.maplines.specs.Lines.{ask_in, line_in}
use Rattle.mapreplies.specs.Replies.{reply_text}
use Rattle.maplines.specs.Answers.{answer_to}
use Rattle.mapstream.specs.Worked.{cut_text, cut_answers}
use Rattle.mapstream.specs.Texts.{step_of, map_list, map_lines, history_after, right_reply_to, right_answer, calls_after, right_text}
use Rattle.mapstream.specs.Claims.{Claims}
use Rattle.mapstream.proofs.Long.{told}
use Rattle.mapstream.proofs.Examples.{worked_calls}

answer_right : (h : List Call) (o : Option Call) → answer_to (state_after map_machine h) o ≡ right_reply_to h o
answer_right h none = refl
answer_right h (some c) = ap reply_text ((mapcalls.claims).right h c)

left_is : (h : List Call) (o : Option Call) → Agrees (state_after map_machine) (step_of (state_after map_machine h) o).state (history_after h o)
unfolding state_after
left_is h none = refl
left_is h (some c) = refl

follows : Follows map_list (state_after map_machine) [] right_answer calls_after
unfolding state_after reply_of next_of line_in
follows = record {
  afresh = λ s. refl;
  answers = λ h l. answer_right h (line_in l);
  leaves = λ h l. left_is h (line_in l);
}

right : (ls : List (List ℕ)) → (lines_step map_lines (list_of none_yet false) ls).text ≡ right_text (some []) ls
unfolding state_after
right ls = lists_right map_list (state_after map_machine) [] right_answer calls_after follows ls (list_of none_yet false) (some []) refl

worked : right_text (some []) (lines_of cut_text) ≡ cut_answers
unfolding list_text lines_from line_in ask_in begins right_reply last_built parse_bytes all_hex hex_value
worked = refl

-- what a malformed line is answered
said : (h : List Call) (l : List ℕ) → line_in l ≡ none → right_answer h l ≡ malformed_text
said h l e = ap (right_reply_to h) e

pub claims : Claims
claims = record {
  told = told;
  right = right;
  ends_list = λ h l ls e n. (ends [] right_answer calls_after).rest h l ls (ap (history_after h) e) n ∙ ap (λ (t : List ℕ). t ++ skipped_lines ls) (said h l e);
  afresh = λ h l ls more e n.
      (ends [] right_answer calls_after).afresh h l ls more (ap (history_after h) e) n
      ∙ ap (λ (t : List ℕ). t ++ (skipped_lines ls ++ ((10 ∷ []) ++ right_text (some []) more))) (said h l e);
  worked = worked;
  worked_calls = worked_calls;
  written = λ {s'} {blocks} {line} {text} large b.
      (linetexts.claims map_lines (keeps_lines (list_teller map_list) told)).written (begun line large) b ∙ right (lines_of (flatten blocks));
}

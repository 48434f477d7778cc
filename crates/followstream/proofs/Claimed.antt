-- The claims of specs/Claims.antt. Assumes nothing.
use mathlib.Core.Path.{◌≡◌, refl, ap, ◌∙◌}
use mathlib.Core.Bool.{false}
use mathlib.Core.List.{List, [], ◌∷◌, ◌++◌, flatten}
use mathlib.Core.Option.{Option, none, some}
use Prim.Native.Nat.{ℕ}
use Rattle.executions.specs.Executions.{state_after}
use Rattle.lines.specs.Splitting.{lines_of}
use Rattle.answers.specs.Answers.{malformed_text}
use Rattle.linetexts.specs.Lists.{list_of, skipped_lines, list_teller}
use Rattle.linetexts.specs.Claims.{lines_step}
use Rattle.linetexts.proofs.Lists.{Agrees, Follows, lists_right, ends_list as ends}
use Rattle.linetexts.proofs.Claimed as linetexts
use Rattle.linetexts.proofs.Beginnings.{begun, keeps_lines}
use Rattle.followcalls.specs.Calls.{Call, none_yet, follow_machine, reply_of, next_of}
use Rattle.followcalls.specs.declared.FollowState.{FollowState}
use Rattle.followcalls.proofs.Claims as followcalls
use Rattle.followlines.specs.Lines.{line_in}
use Rattle.followlines.specs.Answers.{reply_text, response_text, line_step}
use Rattle.followstream.specs.Texts.{told_as, follow_list, follow_lines, history_after, right_response, right_answer, calls_after, right_text}
use Rattle.followstream.specs.Claims.{Claims}
use Rattle.followstream.proofs.Long.{told}
use Rattle.followstream.proofs.Examples.{worked}

abbrev state_in : List Call → FollowState
state_in h = state_after follow_machine h

answer_right : (h : List Call) (o : Option Call) → response_text (line_step (state_in h) o).reply ≡ response_text (right_response h o)
answer_right h none = refl
answer_right h (some c) = ap reply_text ((followcalls.claims).right h c)

left_is : (h : List Call) (o : Option Call) → Agrees state_in (told_as (line_step (state_in h) o)).state (history_after h o)
unfolding state_after
left_is h none = refl
left_is h (some c) = refl

follows : Follows follow_list state_in [] right_answer calls_after
unfolding state_after reply_of next_of line_in
follows = record {
  afresh = λ s. refl;
  answers = λ h l. answer_right h (line_in l);
  leaves = λ h l. left_is h (line_in l);
}

right : (ls : List (List ℕ)) → (lines_step follow_lines (list_of none_yet false) ls).text ≡ right_text (some []) ls
unfolding state_after
right ls = lists_right follow_list state_in [] right_answer calls_after follows ls (list_of none_yet false) (some []) refl

-- what a malformed line is answered
said : (h : List Call) (l : List ℕ) → line_in l ≡ none → right_answer h l ≡ malformed_text
said h l e = ap (λ (o : Option Call). response_text (right_response h o)) e

pub claims : Claims
claims = record {
  told = told;
  right = right;
  ends_list = λ h l ls e n. (ends [] right_answer calls_after).rest h l ls (ap (history_after h) e) n ∙ ap (λ (t : List ℕ). t ++ skipped_lines ls) (said h l e);
  afresh = λ h l ls more e n.
      (ends [] right_answer calls_after).afresh h l ls more (ap (history_after h) e) n
      ∙ ap (λ (t : List ℕ). t ++ (skipped_lines ls ++ ((10 ∷ []) ++ right_text (some []) more))) (said h l e);
  worked = worked;
  written = λ {s'} {blocks} {line} {text} large b.
      (linetexts.claims follow_lines (keeps_lines (list_teller follow_list) told)).written (begun line large) b ∙ right (lines_of (flatten blocks));
}

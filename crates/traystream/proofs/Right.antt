-- Every line is answered by the calls before it. Assumes nothing.
--
--   row_file_lem, column_file_lem  the line of a file, on any tray: its rule is installed, or nothing is done
--   FollowsLine h m         after the calls h the answer to a line of the meaning m is the right one, and
--                           the tray that it leaves is the one after the calls with the line's own
--   right                   so are all answers to lines
use mathlib.Core.Path.{◌≡◌, refl, ap, ◌∙◌}
use mathlib.Core.Bool.{false}
use mathlib.Core.List.{List, []}
use mathlib.Core.Option.{Option, none, some}
use Prim.Native.Nat.{ℕ}
use Rattle.automaton.specs.declared.Rule.{Rule}
use Rattle.executions.specs.Executions.{state_after}
use Rattle.ruleformat.specs.Refusals.{refusal}
use Rattle.ruleformat.specs.Reader.{rule_of}
use Rattle.calls.specs.Calls.{install_number, load_number}
use Rattle.calls.proofs.Conditions.{load_number_lem, load_installs}
use Rattle.linetexts.specs.Lists.{Listed, list_of}
use Rattle.linetexts.specs.Claims.{lines_step}
use Rattle.linetexts.proofs.Lists.{Agrees, Follows, lists_right}
use Rattle.trays.specs.declared.Tray.{Tray}
use Rattle.trays.specs.Replies.{refused, with_sets}
use Rattle.trays.specs.Calls.{Call, installs_row, installs_column}
use Rattle.trays.specs.mirror.Steps.{fresh, Outcome, outcome_by, with_row, with_column, install_row_of, install_column_of, step_of}
use Rattle.trayhistories.specs.History.{answer_of}
use Rattle.trayhistories.specs.Claims.{tray_after}
use Rattle.trayhistories.proofs.EveryList.{answer_after}
use Rattle.traytext.specs.Lines.{Meaning, again, call, row_file, column_file, malformed, line_in}
use Rattle.traytext.specs.Answers.{replied, response_text}
use Rattle.traylines.specs.Running.{load_row_of, load_column_of, line_step}
use Rattle.traystream.specs.Texts.{told_as, tray_list, tray_lines, file_call, file_response, history_after, right_response, right_answer, calls_after, right_text}

-- ---- a file: where reading refuses it, nothing is done; else its rule is installed
abbrev file_outcome : Option ℕ → Outcome → Tray → Outcome
file_outcome none o t = o
file_outcome (some number) o t = record { reply = refused number; state = t }

file_by_lem : (f : List ℕ) (t : Tray) (next : Rule → Tray) (o : Option ℕ) → refusal f ≡ o
    → outcome_by (load_number f) (with_sets (rule_of f)) t (next (rule_of f))
    ≡ file_outcome o (outcome_by (install_number (rule_of f)) (with_sets (rule_of f)) t (next (rule_of f))) t
file_by_lem f t next none e = ap (λ (x : Option ℕ). outcome_by x (with_sets (rule_of f)) t (next (rule_of f))) (load_installs f e)
file_by_lem f t next (some number) e = rw (load_number_lem f, e)

row_file_lem : (f : List ℕ) (t : Tray) → load_row_of t f ≡ file_outcome (refusal f) (install_row_of t (rule_of f)) t
unfolding load_row_of install_row_of
row_file_lem f t = file_by_lem f t (with_row t) (refusal f) refl

column_file_lem : (f : List ℕ) (t : Tray) → load_column_of t f ≡ file_outcome (refusal f) (install_column_of t (rule_of f)) t
unfolding load_column_of install_column_of
column_file_lem f t = file_by_lem f t (with_column t) (refusal f) refl

-- ---- one line
record FollowsLine (h : List Call) (m : Meaning) : Type 0 where
  response : (line_step (tray_after h) m).response ≡ right_response h m
  state : Agrees tray_after (told_as (line_step (tray_after h) m)).state (history_after h m)

-- of a file, by the number with which reading refuses it
module _ (h : List Call) (c : Call) where
  said : (o : Option ℕ) → replied (file_outcome o (step_of (tray_after h) c) (tray_after h)).reply ≡ file_response o (replied (answer_of h c))
  said none = ap replied (answer_after h c)
  said (some number) = refl

  left : (o : Option ℕ) → (file_outcome o (step_of (tray_after h) c) (tray_after h)).state ≡ tray_after (file_call o c h)
  unfolding state_after
  left none = refl
  left (some number) = refl

abbrev going_on : Tray → Listed Tray
going_on t = list_of t false

follows_line : (h : List Call) (m : Meaning) → FollowsLine h m
unfolding state_after
follows_line h again = record { response = refl; state = refl }
follows_line h (call c) = record { response = ap replied (answer_after h c); state = refl }
follows_line h (row_file f) = record {
  response = ap (λ (o : Outcome). replied o.reply) (row_file_lem f (tray_after h)) ∙ said h (installs_row (rule_of f)) (refusal f);
  state = ap going_on (ap (λ (o : Outcome). o.state) (row_file_lem f (tray_after h)) ∙ left h (installs_row (rule_of f)) (refusal f));
}
follows_line h (column_file f) = record {
  response = ap (λ (o : Outcome). replied o.reply) (column_file_lem f (tray_after h)) ∙ said h (installs_column (rule_of f)) (refusal f);
  state = ap going_on (ap (λ (o : Outcome). o.state) (column_file_lem f (tray_after h)) ∙ left h (installs_column (rule_of f)) (refusal f));
}
follows_line h malformed = record { response = refl; state = refl }

-- ---- all lines
follows : Follows tray_list tray_after [] right_answer calls_after
unfolding state_after
follows = record {
  afresh = λ t. refl;
  answers = λ h l. ap response_text (follows_line h (line_in l)).response;
  leaves = λ h l. (follows_line h (line_in l)).state;
}

pub right : (ls : List (List ℕ)) → (lines_step tray_lines (list_of fresh false) ls).text ≡ right_text (some []) ls
unfolding state_after
right ls = lists_right tray_list tray_after [] right_answer calls_after follows ls (list_of fresh false) (some []) refl

-- The claims of specs/Claims.antt. Assumes nothing.
use mathlib.Core.Path.{◌≡◌, refl, ap, ◌∙◌}
use mathlib.Core.List.{List, [], ◌∷◌, ◌++◌, flatten}
use mathlib.Core.Option.{Option, some}
use Prim.Native.Nat.{ℕ}
use Rattle.text.specs.Numerals.{decimal_below}
use Rattle.ruleformat.specs.Reader.{rule_of}
use Rattle.lines.specs.Splitting.{begins, lines_from, lines_of}
use Rattle.traytext.specs.Lines.{Meaning, malformed, call_in, line_in}
use Rattle.traytext.specs.Answers.{replied, unread, response_text}
use Rattle.trays.specs.Calls.{Call, installs_row, installs_column}
use Rattle.linetexts.specs.Lists.{list_text, skipped_lines, list_teller}
use Rattle.linetexts.proofs.Lists.{ends_list as ends}
use Rattle.linetexts.proofs.Claimed as linetexts
use Rattle.linetexts.proofs.Beginnings.{begun, keeps_lines}
use Rattle.trayhistories.specs.History.{board_there, answer_of}
use Rattle.traystream.specs.Worked.{cut_text, cut_answers}
use Rattle.traystream.specs.Texts.{tray_lines, file_call, file_response, history_after, right_response, right_answer, calls_after, right_text, tray_list}
use Rattle.traystream.specs.Claims.{Claims}
use Rattle.traystream.proofs.Long.{told}
use Rattle.traystream.proofs.Right.{right}

worked : right_text (some []) (lines_of cut_text) ≡ cut_answers
unfolding list_text lines_from call_in begins board_there decimal_below
worked = refl

fresh_line : (h : List Call) (ls : List (List ℕ)) → right_text (some h) ([] ∷ ls) ≡ (10 ∷ []) ++ right_text (some []) ls
unfolding list_text
fresh_line h ls = refl

-- what a malformed line is answered
said : (h : List Call) (l : List ℕ) → line_in l ≡ malformed → right_answer h l ≡ response_text unread
said h l e = ap (λ (m : Meaning). response_text (right_response h m)) e

pub claims : Claims
claims = record {
  told = told;
  right = right;
  ends_list = λ h l ls e n. (ends [] right_answer calls_after).rest h l ls (ap (history_after h) e) n ∙ ap (λ (t : List ℕ). t ++ skipped_lines ls) (said h l e);
  afresh = λ h l ls more e n.
      (ends [] right_answer calls_after).afresh h l ls more (ap (history_after h) e) n
      ∙ ap (λ (t : List ℕ). t ++ (skipped_lines ls ++ ((10 ∷ []) ++ right_text (some []) more))) (said h l e);
  fresh_line = fresh_line;
  row_refused = λ h f x e. (
    ap (λ (o : Option ℕ). some (file_call o (installs_row (rule_of f)) h)) e,
    ap (λ (o : Option ℕ). file_response o (replied (answer_of h (installs_row (rule_of f))))) e,
  );
  column_refused = λ h f x e. (
    ap (λ (o : Option ℕ). some (file_call o (installs_column (rule_of f)) h)) e,
    ap (λ (o : Option ℕ). file_response o (replied (answer_of h (installs_column (rule_of f))))) e,
  );
  worked = worked;
  written = λ {s'} {blocks} {line} {text} large b.
      (linetexts.claims tray_lines (keeps_lines (list_teller tray_list) told)).written (begun line large) b ∙ right (lines_of (flatten blocks));
}

-- The claims of specs/Claims.antt. Assumes nothing.
use mathlib.Core.Path.{◌≡◌, refl, ap, ◌∙◌}
use mathlib.Core.Bool.{false}
use mathlib.Core.List.{List, [], ◌∷◌, ◌++◌, flatten}
use mathlib.Core.Option.{some}
use Prim.Native.Nat.{ℕ}
use native.Mathlib.Omega.{arith}
use Rattle.text.specs.Numerals.{decimal_below}
use Rattle.lines.specs.Splitting.{begins, lines_from, lines_of}
use Rattle.calls.specs.declared.Judge.{Judge}
use Rattle.calls.specs.mirror.Steps.{fresh}
use Rattle.linebuffer.proofs.Asking as linebuffer
use Rattle.linetexts.specs.Feeding.{Outcome}
use Rattle.linetexts.specs.Beginnings.{Told, beginning}
use Rattle.linetexts.specs.Lists.{Listed, list_of, list_text, skipped_lines, list_teller}
use Rattle.calltext.specs.Meaning.{malformed, call_in}
use Rattle.questions.specs.Meaning.{recorded, question_in, meaning_in}
use Rattle.calltext.specs.Answers.{unread, response_text}
use Rattle.calls.specs.Calls.{Call}
use Rattle.linetexts.proofs.Lists.{told_lists, ends_list as ends}
use Rattle.linetexts.proofs.Claimed as linetexts
use Rattle.linetexts.proofs.Beginnings.{begun, keeps_lines}
use Rattle.histories.specs.History.{board_in, places_in}
use Rattle.longlines.specs.Holding.{line_begin}
use Rattle.stream.specs.Worked.{cut_text, cut_answers}
use Rattle.stream.specs.Texts.{call_list, call_lines, right_line, known_after, right_answer, calls_after, right_text}
use Rattle.stream.specs.Claims.{Claims}
use Rattle.stream.proofs.Right.{right, diagnose_right, locate_right}

told : Told (list_teller call_list)
told =
    told_lists call_list (omega arith) linebuffer.told

worked : right_text (some []) (lines_of cut_text) ≡ cut_answers
unfolding list_text lines_from question_in call_in begins board_in places_in decimal_below
worked = refl

fresh_line : (h : List Call) (ls : List (List ℕ)) → right_text (some h) ([] ∷ ls) ≡ (10 ∷ []) ++ right_text (some []) ls
unfolding list_text begins question_in
fresh_line h ls = refl

-- what a malformed line is answered
said : (h : List Call) (l : List ℕ) → meaning_in l ≡ recorded malformed → right_answer h l ≡ response_text unread
said h l e = ap (right_line h) e

pub claims : Claims
claims = record {
  told = told;
  right = right;
  question_right = λ h l q e. (ap (right_line h) e, ap (known_after h) e);
  diagnose_right = diagnose_right;
  locate_right = locate_right;
  ends_list = λ h l ls e n. (ends [] right_answer calls_after).rest h l ls (ap (known_after h) e) n ∙ ap (λ (t : List ℕ). t ++ skipped_lines ls) (said h l e);
  afresh = λ h l ls more e n.
      (ends [] right_answer calls_after).afresh h l ls more (ap (known_after h) e) n
      ∙ ap (λ (t : List ℕ). t ++ (skipped_lines ls ++ ((10 ∷ []) ++ right_text (some []) more))) (said h l e);
  fresh_line = fresh_line;
  worked = worked;
  answered = λ blocks line large.
      ap (λ (o : Outcome (Listed Judge)). o.text) ((linetexts.claims call_lines (keeps_lines (list_teller call_list) told)).whole blocks (list_of fresh false) (beginning line_begin line) (begun line large))
      ∙ right (lines_of (flatten blocks));
  written = λ {s'} {blocks} {line} {text} large b.
      (linetexts.claims call_lines (keeps_lines (list_teller call_list) told)).written (begun line large) b ∙ right (lines_of (flatten blocks));
}

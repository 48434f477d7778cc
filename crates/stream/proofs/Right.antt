-- Every line is answered by the calls before it. Assumes nothing.
use mathlib.Core.Path.{◌≡◌, refl, sym, ap, ◌∙◌}
use mathlib.Core.Bool.{false}
use mathlib.Core.List.{List, []}
use mathlib.Core.Option.{some}
use Prim.Native.Nat.{ℕ}
use Rattle.executions.specs.Executions.{state_after}
use Rattle.calls.specs.Calls.{Call}
use Rattle.calls.specs.mirror.Steps.{fresh}
use Rattle.histories.specs.Claims.{judge_after}
use Rattle.histories.proofs.EveryList.{answer_after}
use Rattle.diagnoses.specs.Diagnosing.{Finding}
use Rattle.locating.specs.Locating.{Spot}
use Rattle.losses.specs.Losses.{Diagnosed}
use Rattle.losses.specs.Spots.{Spotted}
use Rattle.losses.proofs.Claims as losses
use Rattle.losses.proofs.Spots as spots
use Rattle.losses.proofs.Answers.{answer-claims}
use Rattle.lines.specs.Splitting.{begins}
use Rattle.calltext.specs.Meaning.{Meaning, again, call, malformed}
use Rattle.calltext.specs.Answers.{replied, response_text}
use Rattle.callrun.specs.Running.{line_step}
use Rattle.questions.specs.Meaning.{Question, diagnoses, locates, LineMeaning, question, recorded, question_in, meaning_in}
use Rattle.questions.specs.Answers.{finding_text, spot_text}
use Rattle.linebuffer.specs.Meanings.{answer_on, line_told}
use Rattle.linetexts.specs.Lists.{list_of}
use Rattle.linetexts.specs.Claims.{lines_step}
use Rattle.linetexts.proofs.Lists.{Agrees, Follows, lists_right}
use Rattle.stream.specs.Texts.{call_list, call_lines, right_response, right_to, right_line, known_after, right_answer, calls_after, right_text}

response_right : (h : List Call) (m : Meaning) → (line_step (judge_after h) m).response ≡ right_response h m
response_right h again = refl
response_right h (call c) = ap replied (answer_after h c)
response_right h malformed = refl

-- a question by the list alone
question_right : (h : List Call) (q : Question) → answer_on (judge_after h) q ≡ right_to h q
question_right h diagnoses = ap finding_text (answer-claims.finding_after h)
question_right h (locates p w) = ap spot_text (answer-claims.spot_after h p w)

line_right : (h : List Call) (m : LineMeaning) → (line_told (judge_after h) m).text ≡ right_line h m
line_right h (question q) = question_right h q
line_right h (recorded m) = ap response_text (response_right h m)

judge_after_lem : (h : List Call) (m : LineMeaning) → Agrees judge_after (line_told (judge_after h) m).state (known_after h m)
unfolding state_after
judge_after_lem h (question q) = refl
judge_after_lem h (recorded again) = refl
judge_after_lem h (recorded (call c)) = refl
judge_after_lem h (recorded malformed) = refl

follows : Follows call_list judge_after [] right_answer calls_after
unfolding state_after begins question_in
follows = record {
  afresh = λ j. refl;
  answers = λ h l. line_right h (meaning_in l);
  leaves = λ h l. judge_after_lem h (meaning_in l);
}

pub right : (ls : List (List ℕ)) → (lines_step call_lines (list_of fresh false) ls).text ≡ right_text (some []) ls
unfolding state_after
right ls = lists_right call_list judge_after [] right_answer calls_after follows ls (list_of fresh false) (some []) refl

-- a question in the words of crates/losses
pub diagnose_right : (h : List Call) (f : Finding) → Diagnosed h f → right_to h diagnoses ≡ finding_text f
diagnose_right h f d = ap finding_text (sym (answer-claims.finding_after h) ∙ ((losses.claims).diagnosis h f).1 d)

pub locate_right : (h : List Call) (p : ℕ) (w : List ℕ) (s : Spot) → Spotted h p w s → right_to h (locates p w) ≡ spot_text s
locate_right h p w s d = ap spot_text (sym (answer-claims.spot_after h p w) ∙ ((spots.spot_claims).spot h p w s).1 d)

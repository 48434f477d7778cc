-- What a line of a text of calls comes to on a judge, and a line of which a buffer has the beginning.
--
--   answer_on j q          what the question q is answered on the judge j, as text
--   told_as o              the outcome of a line of a recorded list, with its answer as text; a
--                          malformed line ends its list
--   line_told j m          the outcome of a line of the meaning m on the judge j. A question leaves the
--                          judge as it is
--   held_meaning buffer h  the meaning of the line that is held: malformed where a byte that the
--                          buffer does not have is no hex digit
--   HeldAs buffer h r      the line that is held was read as r
use Rattle.std.specs.Prelude.{◌≡◌, false, List, ℕ, ◌≤◌, length, take}
use Rattle.calls.specs.declared.Judge.{Judge}
use Rattle.calltext.specs.Meaning.{malformed}
use Rattle.calltext.specs.Answers.{is_malformed, response_text}
use Rattle.callrun.specs.Running.{LineOutcome, line_step}
use Rattle.diagnoses.specs.Diagnosing.{diagnosis_of}
use Rattle.locating.specs.Locating.{spot_of}
use Rattle.questions.specs.Meaning.{Question, diagnoses, locates, LineMeaning, question, recorded, meaning_in, text_means, text_from}
use Rattle.questions.specs.Answers.{finding_text, spot_text}
use Rattle.longlines.specs.declared.Held.{Held}
use Rattle.longlines.specs.Holding.{held_meaning as held_by}
use Rattle.linetexts.specs.Feeding.{Outcome}
use Rattle.linetexts.specs.Lists.{Listed, list_of}
use Rattle.linebuffer.specs.declared.ReadLine.{ReadLine}

abbrev pub answer_on : Judge → Question → List ℕ
answer_on j diagnoses = finding_text (diagnosis_of j)
answer_on j (locates p w) = spot_text (spot_of j p w)

abbrev pub told_as : LineOutcome → Outcome (Listed Judge)
told_as o = record { text = response_text o.response; state = list_of o.state (is_malformed o.response) }

abbrev pub line_told : Judge → LineMeaning → Outcome (Listed Judge)
line_told j (question q) = record { text = answer_on j q; state = list_of j false }
line_told j (recorded m) = told_as (line_step j m)

abbrev pub held_meaning : List ℕ → Held → LineMeaning
held_meaning buffer h = held_by meaning_in (recorded malformed) buffer h

pub record HeldAs (buffer : List ℕ) (h : Held) (r : ReadLine) : Type 0 where
  pub means : held_meaning buffer h ≡ text_means (take r.length buffer) r.line
  pub inside : text_from r.line ≤ length (take r.length buffer)
  pub within : r.length ≤ length buffer

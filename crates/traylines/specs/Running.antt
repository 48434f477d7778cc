-- The outcome of a line on a tray.
--
--   bytes_room             room for the bytes that a line carries: one more than a rule file has at
--                          most, and so many more than a band
--   load_row_of, load_column_of  the outcome of a rule file for the rows and for the columns: read, and
--                          then installed, with document 01's numbers 1 to 9 (`load_number`). It is no
--                          call
--   file_by, load_of        either, with the side as a parameter
--   LineOutcome            the outcome of a line: what it is answered, and the tray that it leaves
--   reply_of o             the outcome of a line that makes a call or has a file, from the call's or
--                          the file's
--   line_step t m          the outcome of a line of the meaning m on the tray t
--   run_outcome r          the outcome that the code's result stands for
--   Scratch before after   all that holds of a buffer that is lent for the bytes of a line: its length
--                          stays
use Rattle.std.specs.Prelude.{◌≡◌, Bool, true, false, List, ℕ, ◌+◌, length}
use Rattle.std.proofs.Math.Option.{Option}
use Rattle.limits.specs.Limits.{longest_file}
use Rattle.ruleformat.specs.Reader.{rule_of}
use Rattle.trays.specs.Replies.{with_sets}
use Rattle.calls.specs.Calls.{load_number}
use Rattle.trays.specs.declared.Tray.{Tray}
use Rattle.trays.specs.mirror.Steps.{fresh, Outcome, outcome_by, with_row, with_column, step_of}
use Rattle.traytext.specs.Lines.{Meaning, again, call, row_file, column_file, malformed, row_by, column_by}
use Rattle.traytext.specs.Answers.{Response, began, replied, unread, answer_means}
use Rattle.traylines.specs.declared.LineRun.{LineRun}

abbrev pub bytes_room : ℕ
bytes_room = longest_file + 1

-- ---- a rule file
unfoldable pub load_row_of : Tray → List ℕ → Outcome
load_row_of t f = outcome_by (load_number f) (with_sets (rule_of f)) t (with_row t (rule_of f))

unfoldable pub load_column_of : Tray → List ℕ → Outcome
load_column_of t f = outcome_by (load_number f) (with_sets (rule_of f)) t (with_column t (rule_of f))

-- for the rows, or else for the columns: what the line of a file means, and the file's outcome
abbrev pub file_by : Bool → Option (List ℕ) → Meaning
file_by true o = row_by o
file_by false o = column_by o

abbrev pub load_of : Bool → Tray → List ℕ → Outcome
load_of true t f = load_row_of t f
load_of false t f = load_column_of t f

-- ---- a line
pub record LineOutcome : Type 0 where
  pub response : Response
  pub state : Tray

abbrev pub reply_of : Outcome → LineOutcome
reply_of o = record { response = replied o.reply; state = o.state }

-- an empty line begins with a fresh tray, and a malformed one changes nothing
abbrev pub line_step : Tray → Meaning → LineOutcome
line_step t again = record { response = began; state = fresh }
line_step t (call c) = reply_of (step_of t c)
line_step t (row_file f) = reply_of (load_row_of t f)
line_step t (column_file f) = reply_of (load_column_of t f)
line_step t malformed = record { response = unread; state = t }

abbrev pub run_outcome : LineRun → LineOutcome
run_outcome r = record { response = answer_means r.answer; state = r.tray }

abbrev pub Scratch : List ℕ → List ℕ → Type 0
Scratch before after = length after ≡ length before

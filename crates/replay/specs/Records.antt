-- A recorded list of calls: a text of lines, each as crates/calltext gives its meaning. It has calls
-- alone: a line that asks a question (crates/questions) is malformed in it.
--
--   Recorded       the calls of a record, the last first, as a history has them; or the number of
--                  its first malformed line, counted from 1
--   read_on, read_line, read_lines  a line more, by its meaning; a line, and lines from a number on
--   record_in w    what the text w records. An empty line begins a fresh judge: the calls are those
--                  after the last one
--   ReplayReply    what replaying a record answers: what a verdict reports, or that a line is
--                  malformed
--   replay_means r      what the code's answer says
--   replay_of s    the right answer for a record that says s
use Rattle.std.specs.Prelude.{Result, Ok, Err, List, [], ◌∷◌, ℕ, suc}
use Rattle.lines.specs.Splitting.{lines_of}
use Rattle.calls.specs.declared.Report.{Report}
use Rattle.calls.specs.Replies.{Reported, report_means}
use Rattle.histories.specs.History.{report_in}
use Rattle.calls.specs.Calls.{Call}
use Rattle.calltext.specs.Meaning.{Meaning, again, call, malformed, line_in}

pub data Recorded : Type 0 where
  calls : List Call → Recorded
  malformed_at : ℕ → Recorded

-- line i, of which the meaning is known, after the calls h
abbrev pub read_on : ℕ → List Call → Meaning → Recorded
read_on i h again = calls []
read_on i h (call c) = calls (c ∷ h)
read_on i h malformed = malformed_at i

abbrev pub read_line : Recorded → ℕ → List ℕ → Recorded
read_line (calls h) i line = read_on i h (line_in line)
read_line (malformed_at k) i line = malformed_at k

-- the lines from line i on
unfoldable pub read_lines : Recorded → ℕ → List (List ℕ) → Recorded
read_lines so i [] = so
read_lines so i (line ∷ lines) = read_lines (read_line so i line) (suc i) lines

abbrev pub record_in : List ℕ → Recorded
record_in w = read_lines (calls []) 1 (lines_of w)

pub data ReplayReply : Type 0 where
  verdict : Reported → ReplayReply
  malformed_line : ℕ → ReplayReply

abbrev pub replay_means : Result Report ℕ → ReplayReply
replay_means (Ok r) = verdict (report_means r)
replay_means (Err line) = malformed_line line

-- what is reported after the recorded calls: `VerdictClauses` and `ReportClauses` of
-- crates/histories, which hold of every list, have its words
abbrev pub replay_of : Recorded → ReplayReply
replay_of (calls h) = verdict (report_in h)
replay_of (malformed_at i) = malformed_line i

-- What is claimed of lines that come in pieces; proofs/Claims.antt proves it.
use Rattle.std.specs.Prelude.{◌≡◌, List, ◌++◌, ℕ, ◌<◌, length}
use Rattle.limits.specs.Limits.{longest_file}
use Rattle.mergetext.specs.Lines.{line_in}
use Rattle.mergetext.specs.Answers.{response_in}
use Rattle.mergescan.specs.declared.Scan.{Scan}
use Rattle.mergescan.specs.Lines.{Seen, start, seen_by, means_now}
use Rattle.mergescan.specs.Scanning.{Scanned, scan_of, KeepsLine, ScansOn, held_meaning}

pub record Claims : Type 0 where
  -- byte by byte a line means what it means as a whole
  pub whole : (w : List ℕ) → means_now (seen_by start w) ≡ line_in w
  -- wherever it is cut into pieces
  pub pieces : (s : Seen) (v w : List ℕ) → seen_by s (v ++ w) ≡ seen_by (seen_by s v) w
  -- what the code does with a byte more keeps what was read
  pub scans_on : (s : Scanned) (c : ℕ) → ScansOn s.one s.two s.scan c (scan_of s c).one (scan_of s c).two (scan_of s c).scan
  -- what is kept of a line is answered as the whole line, where the buffers can tell a file that is
  -- too long
  pub answered : (w : List ℕ) (s : Scan) (one two : List ℕ) → KeepsLine (seen_by start w) s one two
      → longest_file < length one → longest_file < length two → response_in (held_meaning s one two) ≡ response_in (line_in w)

-- What is claimed of fields that are read byte by byte; proofs/Claims.antt proves it.
use Rattle.std.specs.Prelude.{◌≡◌, List, ℕ}
use Rattle.fields.specs.Bytes.{parse_bytes}
use Rattle.hexfields.specs.declared.Part.{Part}
use Rattle.hexfields.specs.Fields.{Begun, nothing, begun_by, says_now}
use Rattle.hexfields.specs.Reading.{read_of, Keeps, ReadsOn, end_of, Tells}

pub record Claims : Type 0 where
  -- byte by byte a field says what it says as a whole
  pub whole : (w : List ℕ) → says_now (begun_by nothing w) ≡ parse_bytes w
  -- what the code does with a byte more keeps what was read
  pub reads_on : (before : List ℕ) (p : Part) (c : ℕ) → ReadsOn before p c (read_of before p c).buffer (read_of before p c).part
  -- what is kept of a field tells its bytes where it ends
  pub told : (b : Begun) (p : Part) (buffer : List ℕ) → Keeps b p buffer → Tells (says_now b) (end_of p) buffer

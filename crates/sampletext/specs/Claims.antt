-- What is claimed of the printed text, for two files by hand and for any file whatever;
-- proofs/Claims.antt proves it.
use Rattle.std.specs.Prelude.{List, ℕ, ◌≤◌, length}
use Rattle.sampletext.specs.SampleText.{text_for, most_bytes}
use Rattle.sampletext.specs.Worked.{WorkedSamples}

pub record Claims : Type 0 where
  pub worked : WorkedSamples
  -- the text for a file, also for one that is refused, has at most so many bytes
  pub fits : (f : List ℕ) → length (text_for f) ≤ most_bytes

-- What is claimed of the printed text, for rule A by hand and for any file whatever;
-- proofs/Claims.antt proves it.
use Rattle.std.specs.Prelude.{◌≡◌, List, ℕ, ◌≤◌, length}
use Rattle.ruleformat.specs.Worked.{file_A}
use Rattle.profiletext.specs.Worked.{lines_A}
use Rattle.profiletext.specs.ProfileText.{text_for, most_bytes}

pub record Claims : Type 0 where
  pub worked : text_for file_A ≡ lines_A
  -- the text for a file, also for one that is refused, has at most so many bytes
  pub fits : (f : List ℕ) → length (text_for f) ≤ most_bytes

-- The law of the numbers that C is given for a pattern: what reading it answers can be read back from
-- them. proofs/Claims.antt proves it.
use Rattle.std.specs.Prelude.{◌≡◌, List, ℕ}
use Rattle.flags.specs.Flags.{FlagLaw}
use Rattle.rulewriter.specs.Written.{Writing}
use Rattle.patternfile.specs.Answers.{pattern_of}
use Rattle.c_patterns.specs.Numbers.{pattern_shown, pattern_read_back}

pub record Claims : Type 0 where
  -- accepted and refused are by the number, and the length and the bytes are those of the file
  pub flags : (o : Writing) → FlagLaw o.number (pattern_shown o).accepted (pattern_shown o).refused
  pub file : (o : Writing) → ((pattern_shown o).length ≡ o.length) × ((pattern_shown o).bytes ≡ o.bytes)
  pub read_back : (b : List ℕ) → pattern_read_back (pattern_shown (pattern_of b)) ≡ pattern_of b

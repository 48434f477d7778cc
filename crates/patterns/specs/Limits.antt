-- The limits of patterns (document 02, R-6). src/lib.rt has them for code.
--
--   longest_pattern     the most bytes of a pattern
--   most_letters        the most letters of a pattern: a rule has 32 states, one of them the start
--   longest_pattern_file  the most bytes of a pattern's rule file
use Rattle.std.specs.Prelude.{ℕ}

abbrev pub longest_pattern : ℕ
longest_pattern = 128

abbrev pub most_letters : ℕ
most_letters = 31

abbrev pub longest_pattern_file : ℕ
longest_pattern_file = 2122

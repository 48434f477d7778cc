-- What `patternrule` answers to a line: as text, in ASCII.
--
--   answer_room    room for an answer: two hex digits for each byte of the longest file, and a line
--                  feed
--   answer_text b  the answer to the pattern b: the digits of its rule file, or `refused` and the
--                  number; and a line feed
use Rattle.std.specs.Prelude.{List, [], ◌∷◌, ◌++◌, ℕ, ◌+◌, ◌*◌}
use Rattle.std.proofs.Math.Option.{Option, none, some}
use Rattle.fields.specs.Claims.{digits_of}
use Rattle.ruletext.specs.RuleText.{refused_text}
use Rattle.patterns.specs.Limits.{longest_pattern_file}
use Rattle.patternfile.specs.Answers.{pattern_number, pattern_file}

abbrev pub answer_room : ℕ
answer_room = 2 * longest_pattern_file + 1

abbrev pub answer_by : Option ℕ → List ℕ → List ℕ
answer_by none file = digits_of file ++ (10 ∷ [])
answer_by (some number) file = refused_text number

abbrev pub answer_text : List ℕ → List ℕ
answer_text b = answer_by (pattern_number b) (pattern_file b)

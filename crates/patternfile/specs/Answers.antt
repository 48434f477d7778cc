-- What reading a pattern answers (document 02, R-6), as the code finds it; specs/Claims.antt says it
-- in the words of the grammar.
--
--   too_long b         30: a pattern over 128 bytes
--   no_pattern b       31: a pattern outside the grammar
--   too_many_letters b  32: more than 31 letters
--   pattern_number b   the number of the first that holds, none where the pattern is accepted
--   pattern_file b     the rule file of the bytes b, nothing where they are refused
--   pattern_of b       what reading the bytes b answers: that number, the length of that file, and
--                      its bytes with zeros after them
--   refused_with x     a refusal: the number x, and zeros
--   pattern_outcome    what each case of the code's result stands for
--   file_in o          the file in such an outcome: as many of its bytes as it says
use Rattle.std.specs.Prelude.{Result, Ok, Err, Bool, not, List, [], ◌∷◌, ℕ, ltb, length, take, replicate}
use Rattle.std.proofs.Math.Option.{Option, none, some}
use Rattle.base.specs.declared.Refusal.{Refusal}
use Rattle.base.specs.Answers.{refusal_number}
use Rattle.base.specs.Conditions.{Condition, on, first_of}
use Rattle.ruleformat.specs.Writing.{file_of}
use Rattle.rulewriter.specs.Written.{padded, Writing}
use Rattle.patterns.specs.Limits.{longest_pattern, most_letters, longest_pattern_file}
use Rattle.patternscan.specs.Signs.{letters_in}
use Rattle.patternscan.specs.Scanning.{grammatical}
use Rattle.patternreader.specs.Rules.{rule_read}
use Rattle.patternfile.specs.declared.PatternFile.{PatternFile}

abbrev pub too_long : List ℕ → Bool
too_long b = ltb longest_pattern (length b)

abbrev pub no_pattern : List ℕ → Bool
no_pattern b = not (grammatical b)

abbrev pub too_many_letters : List ℕ → Bool
too_many_letters b = ltb most_letters (length (letters_in b))

abbrev pub pattern_conditions : List ℕ → List Condition
pattern_conditions b = on 30 (too_long b) ∷ on 31 (no_pattern b) ∷ on 32 (too_many_letters b) ∷ []

abbrev pub pattern_number : List ℕ → Option ℕ
pattern_number b = first_of (pattern_conditions b)

abbrev pub pattern_file_by : Option ℕ → List ℕ → List ℕ
pattern_file_by none b = file_of (rule_read b)
pattern_file_by (some number) b = []

abbrev pub pattern_file : List ℕ → List ℕ
pattern_file b = pattern_file_by (pattern_number b) b

abbrev pub pattern_of : List ℕ → Writing
pattern_of b = record {
  number = pattern_number b;
  length = length (pattern_file b);
  bytes = padded longest_pattern_file (pattern_file b);
}

abbrev pub refused_with : ℕ → Writing
refused_with x = record { number = some x; length = 0; bytes = replicate longest_pattern_file 0 }

abbrev pub pattern_outcome : Result PatternFile Refusal → Writing
pattern_outcome (Ok file) = record { number = none; length = file.length; bytes = file.bytes }
pattern_outcome (Err refusal) = refused_with (refusal_number refusal)

abbrev pub file_in : Writing → List ℕ
file_in o = take o.length o.bytes

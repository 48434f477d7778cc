-- What is claimed of the lines of `rulemerge` and their answers; proofs/Claims.antt proves it.
--
--   line_of way f g        the line that merges the files f and g, without its line feed
--   SaysTwo l word f g    the line l is the word and two fields, one space between them, that say the
--                         bytes f and g, in either case
--   SaysMerge l way f g   it is the line of a way and two files
--   SaysLine l m          it is a line that means m, which is not malformed
use Rattle.std.specs.Prelude.{◌≡◌, ◌↔◌, List, ◌∷◌, ◌++◌, ℕ, ◌≤◌, length}
use Rattle.std.proofs.Math.Option.{none, some}
use Rattle.automaton.specs.Automaton.{Accepts}
use Rattle.fields.specs.Claims.{AllBytes, field_of, SaysBytes}
use Rattle.ruleformat.specs.Refusals.{refusal}
use Rattle.ruleformat.specs.Reader.{rule_of}
use Rattle.ruleformat.specs.Language.{automaton_in}
use Rattle.ruleformat.specs.Writing.{file_of}
use Rattle.merging.specs.declared.Way.{Way}
use Rattle.merging.specs.Languages.{Merges}
use Rattle.merging.specs.Merged.{merged_of}
use Rattle.merging.specs.Merging.{merge_number}
use Rattle.compare.specs.declared.Which.{Which}
use Rattle.compare.specs.Compared as compared
use Rattle.compare.specs.Search.{compare_of}
use Rattle.reducing.specs.Reducing.{reduce_of}
use Rattle.mergetext.specs.declared.Verb.TheVariants.{Compare, Reduce}
use Rattle.mergetext.specs.Lines.{word_of, verb_word, Meaning, merges, compares, reduces, malformed, line_in}
use Rattle.mergetext.specs.Worked.{WorkedLines, Written}
use Rattle.mergetext.specs.Answers.{files_number, result_file, refused, file, apart, same, compared_by, compared_files, reduced_by, reduced_file, response_in, response_text, most_answer}

abbrev pub line_of : Way → List ℕ → List ℕ → List ℕ
line_of way f g = word_of way ++ (field_of f ++ (32 ∷ field_of g))

abbrev pub SaysTwo : List ℕ → List ℕ → List ℕ → List ℕ → Type 0
SaysTwo l word f g = (x y : List ℕ) × (l ≡ word ++ (x ++ (32 ∷ y))) × SaysBytes x f × SaysBytes y g

abbrev pub SaysMerge : List ℕ → Way → List ℕ → List ℕ → Type 0
SaysMerge l way f g = SaysTwo l (word_of way) f g

abbrev pub SaysLine : List ℕ → Meaning → Type 0
SaysLine l (merges way f g) = SaysMerge l way f g
SaysLine l (compares f g) = SaysTwo l (verb_word Compare) f g
SaysLine l (reduces f) = (x : List ℕ) × (l ≡ verb_word Reduce ++ x) × SaysBytes x f
SaysLine l malformed = ⊥

pub record Claims : Type 0 where
  -- which lines merge two files, compare two and reduce one, and that any other is malformed
  pub line_exactly : (l : List ℕ) (way : Way) (f g : List ℕ) → (line_in l ≡ merges way f g) ↔ SaysMerge l way f g
  pub compare_exactly : (l f g : List ℕ) → (line_in l ≡ compares f g) ↔ SaysLine l (compares f g)
  pub reduce_exactly : (l f : List ℕ) → (line_in l ≡ reduces f) ↔ SaysLine l (reduces f)
  pub malformed_exactly : (l : List ℕ) → (line_in l ≡ malformed) ↔ ((m : Meaning) → SaysLine l m → ⊥)
  -- so every way and every two lists of bytes have a line
  pub line_round_trip : (way : Way) (f g : List ℕ) → AllBytes f → AllBytes g
      → line_in (line_of way f g) ≡ merges way f g
  pub compare_round_trip : (f g : List ℕ) → AllBytes f → AllBytes g
      → line_in (verb_word Compare ++ (field_of f ++ (32 ∷ field_of g))) ≡ compares f g
  pub reduce_round_trip : (f : List ℕ) → AllBytes f → line_in (verb_word Reduce ++ field_of f) ≡ reduces f
  pub worked_lines : WorkedLines
  -- the first file's number comes first, then the second's
  pub refused_first : (way : Way) (f g : List ℕ) (x : ℕ) → refusal f ≡ some x → files_number way f g ≡ some x
  pub refused_second : (way : Way) (f g : List ℕ) → refusal f ≡ none → (x : ℕ) → refusal g ≡ some x → files_number way f g ≡ some x
  -- two files that reading accepts are refused as their rules are
  pub as_rules : (way : Way) (f g : List ℕ) → refusal f ≡ none → refusal g ≡ none
      → files_number way f g ≡ merge_number way (rule_of f) (rule_of g)
  -- the result is a file that reading accepts, and the rule in it is the two rules made one
  pub result_read : (way : Way) (f g : List ℕ) → files_number way f g ≡ none
      → (refusal (result_file way f g) ≡ none) × (rule_of (result_file way f g) ≡ merged_of way (rule_of f) (rule_of g))
  -- from the bytes of the three files: it accepts the texts that its way says
  pub language : (way : Way) (f g : List ℕ) → files_number way f g ≡ none → (w : List ℕ)
      → Accepts (automaton_in (result_file way f g)) w ↔ Merges way (automaton_in f) (automaton_in g) w
  -- comparing and reducing: the first file's number comes first, then the second's; files that
  -- reading accepts are answered as their rules are
  pub compared_first : (f g : List ℕ) (x : ℕ) → refusal f ≡ some x → compared_files f g ≡ refused x
  pub compared_second : (f g : List ℕ) → refusal f ≡ none → (x : ℕ) → refusal g ≡ some x → compared_files f g ≡ refused x
  pub compared_rules : (f g : List ℕ) → refusal f ≡ none → refusal g ≡ none → compared_files f g ≡ compared_by (compare_of (rule_of f) (rule_of g))
  pub reduced_first : (f : List ℕ) (x : ℕ) → refusal f ≡ some x → reduced_file f ≡ refused x
  pub reduced_rule : (f : List ℕ) → refusal f ≡ none → reduced_file f ≡ reduced_by (reduce_of (rule_of f))
  -- a comparison's text is answered with the rule that alone accepts it, that they are the same and a
  -- number as they are; a reduced rule as its file, and its number as it is
  pub compared_apart : (f g : List ℕ) → refusal f ≡ none → refusal g ≡ none → (which : Which) (w : List ℕ)
      → (compared_files f g ≡ apart which w) ↔ (compare_of (rule_of f) (rule_of g) ≡ compared.apart which w)
  pub compared_same : (f g : List ℕ) → refusal f ≡ none → refusal g ≡ none
      → (compared_files f g ≡ same) ↔ (compare_of (rule_of f) (rule_of g) ≡ compared.same)
  pub compared_refused : (f g : List ℕ) → refusal f ≡ none → refusal g ≡ none → (x : ℕ)
      → (compared_files f g ≡ refused x) ↔ (compare_of (rule_of f) (rule_of g) ≡ compared.refused x)
  pub reduced_accepted : (f : List ℕ) → refusal f ≡ none → (reduce_of (rule_of f)).number ≡ none
      → reduced_file f ≡ file (file_of (reduce_of (rule_of f)).rule)
  pub reduced_refused : (f : List ℕ) → refusal f ≡ none → (x : ℕ)
      → (reduced_file f ≡ refused x) ↔ ((reduce_of (rule_of f)).number ≡ some x)
  -- the file that reducing answers is read, and has the reduced rule
  pub reduced_read : (f g : List ℕ) → reduced_file f ≡ file g → (refusal g ≡ none) × (rule_of g ≡ (reduce_of (rule_of f)).rule)
  pub answers_written : Written
  -- an answer has room
  pub fits : (m : Meaning) → length (response_text (response_in m)) ≤ most_answer

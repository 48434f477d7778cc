-- The lines of `rulemerge`: `both HEX HEX`, `either HEX HEX`, `interleaving HEX HEX` and `compare HEX
-- HEX`, two rule files, and `reduce HEX`, one, with exactly one space between the fields. Any other
-- line is malformed, an empty one too.
--
--   word_of way     the word of the way, with the space behind it
--   verb_word v    the word of a line: of a way, `compare` or `reduce`
--   Meaning        of a line: two files to merge by a way, or to compare, a file to reduce, or
--                  malformed
--   pair_by v f g  the meaning of the word with two files; of `reduce` there is none
--   alone_by v f   the meaning of the word with one file; only of `reduce` there is one
--   fields_in v w  the meaning of a line with the word and w behind it: a field up to the next
--                  space, and all that follows, if there is a space, as another
--   line_in w      what the line w means
use Rattle.std.specs.Prelude.{cond, List, [], ◌∷◌, ℕ, length, drop}
use Rattle.std.proofs.Math.Option.{Option, none, some}
use Rattle.lines.specs.Splitting.{begins, up_to, past}
use Rattle.fields.specs.Bytes.{parse_bytes}
use Rattle.merging.specs.declared.Way.{Way}
use Rattle.merging.specs.declared.Way.TheVariants.{Both, Either, Interleaving}
use Rattle.mergetext.specs.declared.Verb.{Verb}
use Rattle.mergetext.specs.declared.Verb.TheVariants.{Merge, Compare, Reduce}

-- `both `, `either `, `interleaving `
abbrev pub word_of : Way → List ℕ
word_of Both = 98 ∷ 111 ∷ 116 ∷ 104 ∷ 32 ∷ []
word_of Either = 101 ∷ 105 ∷ 116 ∷ 104 ∷ 101 ∷ 114 ∷ 32 ∷ []
word_of Interleaving =
    105 ∷ 110 ∷ 116 ∷ 101 ∷ 114 ∷ 108 ∷ 101 ∷ 97 ∷ 118 ∷ 105 ∷ 110 ∷ 103 ∷ 32 ∷ []

-- `compare `, `reduce `
abbrev pub verb_word : Verb → List ℕ
verb_word (Merge way) = word_of way
verb_word Compare = 99 ∷ 111 ∷ 109 ∷ 112 ∷ 97 ∷ 114 ∷ 101 ∷ 32 ∷ []
verb_word Reduce = 114 ∷ 101 ∷ 100 ∷ 117 ∷ 99 ∷ 101 ∷ 32 ∷ []

pub data Meaning : Type 0 where
  merges : Way → List ℕ → List ℕ → Meaning
  compares : List ℕ → List ℕ → Meaning
  reduces : List ℕ → Meaning
  malformed : Meaning

abbrev pub pair_by : Verb → List ℕ → List ℕ → Meaning
pair_by (Merge way) f g = merges way f g
pair_by Compare f g = compares f g
pair_by Reduce f g = malformed

abbrev pub alone_by : Verb → List ℕ → Meaning
alone_by (Merge way) f = malformed
alone_by Compare f = malformed
alone_by Reduce f = reduces f

-- from the bytes that the second field says, if it says any
abbrev pub second_by : Verb → List ℕ → Option (List ℕ) → Meaning
second_by v f none = malformed
second_by v f (some g) = pair_by v f g

-- from the bytes that the first says, and the text behind its space, if there is one
abbrev pub first_by : Verb → Option (List ℕ) → Option (List ℕ) → Meaning
first_by v none rest = malformed
first_by v (some f) none = alone_by v f
first_by v (some f) (some w) = second_by v f (parse_bytes w)

abbrev pub fields_in : Verb → List ℕ → Meaning
fields_in v w = first_by v (parse_bytes (up_to 32 w)) (past 32 w)

-- a line that begins with the word, else another
abbrev pub word_in : Verb → List ℕ → Meaning → Meaning
word_in v w other = cond (begins (verb_word v) w) (fields_in v (drop (length (verb_word v)) w)) other

unfoldable pub line_in : List ℕ → Meaning
line_in w =
    word_in (Merge Both) w
    (word_in (Merge Either) w (word_in (Merge Interleaving) w (word_in Compare w (word_in Reduce w malformed))))

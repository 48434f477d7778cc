-- 16-bit numbers in a field of bytes: two bytes a number, the low one first; zeros stand behind
-- them.
--
--   word_at b i         the number i that the bytes b stand for; 0 behind the last
--   words_of most b     `most` numbers
--   parse_words most w  what the field w says: at most `most` numbers; none where it is no field of
--                      bytes, an odd number of them or more
--   words_mean known words  whether a field said numbers, and which
use Rattle.std.specs.Prelude.{Bool, cond, ◌&&◌, List, ℕ, ◌+◌, ◌*◌, ◌%◌, eqb, leb, length, get_or}
use Rattle.std.proofs.Math.Option.{Option, none, some}
use Rattle.base.specs.Lists.{list_from}
use Rattle.fields.specs.Bytes.{parse_bytes}

abbrev pub word_at : List ℕ → ℕ → ℕ
word_at b i = get_or b (2 * i) 0 + 256 * get_or b (2 * i + 1) 0

abbrev pub words_of : ℕ → List ℕ → List ℕ
words_of most b = list_from 0 most (word_at b)

abbrev pub words_by : ℕ → Option (List ℕ) → Option (List ℕ)
words_by most none = none
words_by most (some b) = cond (eqb (length b % 2) 0 && leb (length b) (2 * most)) (some (words_of most b)) none

abbrev pub parse_words : ℕ → List ℕ → Option (List ℕ)
parse_words most w = words_by most (parse_bytes w)

abbrev pub words_mean : Bool → List ℕ → Option (List ℕ)
words_mean known words = cond known (some words) none

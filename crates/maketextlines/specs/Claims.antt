-- What is claimed of the lines of `maketext` and their answers; proofs/Claims.antt proves it.
--
--   line_of k seed n       the line that makes such a text, without its line feed
--   SaysText l k seed n   the line l is three numbers, k, the seed and a length that is not too
--                         long, with one space between each two, and leading zeros or none
use Rattle.std.specs.Prelude.{◌≡◌, ◌↔◌, List, [], ◌∷◌, ◌++◌, ℕ, ◌≤◌, ◌<◌, length}
use Rattle.limits.specs.Limits.{largest_number, longest_chunk}
use Rattle.text.specs.Numerals.{decimal}
use Rattle.fields.specs.Claims.{SaysNumber}
use Rattle.maketextlines.specs.Lines.{longest_line, makes, malformed, line_in}
use Rattle.maketextlines.specs.Worked.{six_line, six_answer}
use Rattle.maketextlines.specs.Answers.{most_answer, answer_to}

abbrev pub line_of : ℕ → ℕ → ℕ → List ℕ
line_of k seed n = decimal k ++ (32 ∷ (decimal seed ++ (32 ∷ decimal n)))

abbrev pub SaysText : List ℕ → ℕ → ℕ → ℕ → Type 0
SaysText l k seed n =
    (x y z : List ℕ) × (l ≡ x ++ (32 ∷ (y ++ (32 ∷ z)))) × SaysNumber x k × SaysNumber y seed × SaysNumber z n × (n ≤ longest_chunk)

pub record Claims : Type 0 where
  -- which lines make a text, and that any other is malformed
  pub line_exactly : (l : List ℕ) (k seed n : ℕ) → (line_in l ≡ makes k seed n) ↔ SaysText l k seed n
  pub malformed_exactly : (l : List ℕ) → (line_in l ≡ malformed) ↔ ((k seed n : ℕ) → SaysText l k seed n → ⊥)
  pub worked : answer_to six_line ≡ six_answer
  -- every k and seed of 64 bits and length that is not too long have a line
  pub line_round_trip : (k seed n : ℕ) → k ≤ largest_number → seed ≤ largest_number → n ≤ longest_chunk
      → line_in (line_of k seed n) ≡ makes k seed n
  -- an empty line is malformed, and so is one that is longer than any in the grammar
  pub empty : line_in [] ≡ malformed
  pub too_long : (w : List ℕ) → longest_line < length w → line_in w ≡ malformed
  -- an answer has room
  pub fits : (w : List ℕ) → length (answer_to w) ≤ most_answer

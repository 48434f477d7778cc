-- The lines of a text, by its first line feed; proofs/Claims.antt proves it.
--
--   NoFeed l   no byte of l is a line feed
use Rattle.std.specs.Prelude.{◌≡◌, List, [], ◌∷◌, ◌++◌, ℕ, ◌<◌, length}
use Rattle.lines.specs.Splitting.{lines_of}

abbrev pub NoFeed : List ℕ → Type 0
NoFeed [] = Unit {0}
NoFeed (x ∷ l) = (x ≡ 10 → ⊥) × NoFeed l

pub record Claims : Type 0 where
  pub no_line : lines_of [] ≡ []
  -- a line feed ends a line, also an empty one
  pub line_ended : (l w : List ℕ) → NoFeed l → lines_of (l ++ (10 ∷ w)) ≡ l ∷ lines_of w
  -- and so does the text's end, if the line is not empty
  pub line_last : (l : List ℕ) → NoFeed l → 0 < length l → lines_of l ≡ l ∷ []

-- From bytes of a text to bytes of its chunk, in which idle marks count.
--
--   position_of w b       the least number of bytes of the chunk w that hold b bytes of its text; all
--                        where it has fewer
--   PositionClaims       what is claimed of it; proofs/Positions.antt proves it
use Rattle.std.specs.Prelude.{◌≡◌, false, cond, List, [], ◌∷◌, ℕ, zero, suc, ◌≤◌, ◌<◌, eqb, length, take}
use Rattle.marks.specs.Marks.{idle_mark, marked, text_of}

unfoldable pub position_of : List ℕ → ℕ → ℕ
position_of [] b = 0
position_of (c ∷ w) zero = 0
position_of (c ∷ w) (suc b) = suc (position_of w (cond (eqb c idle_mark) (suc b) b))

pub record PositionClaims : Type 0 where
  pub within : (w : List ℕ) (b : ℕ) → position_of w b ≤ length w
  -- so many bytes of the text are there, and fewer before
  pub there : (w : List ℕ) (b : ℕ) → b ≤ length (text_of w) → length (text_of (take (position_of w b) w)) ≡ b
  pub least : (w : List ℕ) (b i : ℕ) → i < position_of w b → length (text_of (take i w)) < b
  -- without marks it is the same number
  pub unmarked : (w : List ℕ) (b : ℕ) → marked w ≡ false → b ≤ length w → position_of w b ≡ b

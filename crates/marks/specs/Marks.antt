-- Idle marks (document 02, R-5): what a controller writes while no valve moves. They are skipped
-- and are no part of the text.
--
--   idle_mark     the byte that is an idle mark
--   marked w      some byte of the chunk w is an idle mark
--   text_of w      the text of the chunk w: its bytes that are no idle marks, in order
use Rattle.std.specs.Prelude.{Bool, false, cond, ◌||◌, List, [], ◌∷◌, ℕ, eqb}

abbrev pub idle_mark : ℕ
idle_mark = 255

unfoldable pub marked : List ℕ → Bool
marked [] = false
marked (b ∷ w) = eqb b idle_mark || marked w

unfoldable pub text_of : List ℕ → List ℕ
text_of [] = []
text_of (b ∷ w) = cond (eqb b idle_mark) (text_of w) (b ∷ text_of w)

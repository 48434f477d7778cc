-- A text split at a byte, and into lines.
--
--   begins h w   the text w begins with the bytes h
--   up_to c w     the bytes of w before the first c; all of them where there is none
--   past c w     the bytes of w after the first c, if there is one
--   lines_of w    the lines of w: a line is ended by a line feed or, if it is the last and not
--                empty, by the text's end
use Rattle.std.specs.Prelude.{Bool, true, false, cond, ◌&&◌, List, [], ◌∷◌, ◌++◌, ℕ, eqb}
use Rattle.std.proofs.Math.Option.{Option, none, some}

unfoldable pub begins : List ℕ → List ℕ → Bool
begins [] w = true
begins (c ∷ h) [] = false
begins (c ∷ h) (x ∷ w) = eqb x c && begins h w

unfoldable pub up_to : ℕ → List ℕ → List ℕ
up_to c [] = []
up_to c (x ∷ w) = cond (eqb x c) [] (x ∷ up_to c w)

unfoldable pub past : ℕ → List ℕ → Option (List ℕ)
past c [] = none
past c (x ∷ w) = cond (eqb x c) (some w) (past c w)

-- the last line, where the text's end ends it
abbrev pub last_line : List ℕ → List (List ℕ)
last_line [] = []
last_line (x ∷ line) = (x ∷ line) ∷ []

-- the lines of w after the beginning of a line
unfoldable pub lines_from : List ℕ → List ℕ → List (List ℕ)
lines_from line [] = last_line line
lines_from line (x ∷ w) = cond (eqb x 10) (line ∷ lines_from [] w) (lines_from (line ++ (x ∷ [])) w)

abbrev pub lines_of : List ℕ → List (List ℕ)
lines_of w = lines_from [] w

-- Interleavings of two texts (document 02, R-10: "a text that is an interleaving of one from
-- each").
--
--   Interleaving u v w   w is an interleaving of u and v: each symbol of w is the next of one of
--                        them, until both have ended
--   marked b marks w     the symbols of w that have the mark b
use Rattle.std.specs.Prelude.{Bool, true, false, cond, List, [], ◌∷◌, ℕ}

pub data Interleaving : List ℕ → List ℕ → List ℕ → Type 0 where
  ended : Interleaving [] [] []
  first : {s : ℕ} {u v w : List ℕ} → Interleaving u v w → Interleaving (s ∷ u) v (s ∷ w)
  second : {s : ℕ} {u v w : List ℕ} → Interleaving u v w → Interleaving u (s ∷ v) (s ∷ w)

-- for the second way to say it, in Claims.antt: each symbol of w has a mark
abbrev pub same_mark : Bool → Bool → Bool
same_mark true b = b
same_mark false true = false
same_mark false false = true

abbrev pub marked : Bool → List Bool → List ℕ → List ℕ
marked b [] w = []
marked b (m ∷ marks) [] = []
marked b (m ∷ marks) (s ∷ w) = cond (same_mark b m) (s ∷ marked b marks w) (marked b marks w)

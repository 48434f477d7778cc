-- A mapping and its text, by hand: the identity of three states.
--
--   three_states  each of three states leads to itself
--   three_text    `0102040000000000`
use Rattle.std.specs.Prelude.{List, [], ◌∷◌, ℕ}

abbrev pub three_states : List ℕ
three_states = 1 ∷ 2 ∷ 4 ∷ 0 ∷ 0 ∷ 0 ∷ 0 ∷ 0 ∷ []

abbrev pub three_text : List ℕ
three_text = 48 ∷ 49 ∷ 48 ∷ 50 ∷ 48 ∷ 52 ∷ 48 ∷ 48 ∷ 48 ∷ 48 ∷ 48 ∷ 48 ∷ 48 ∷ 48 ∷ 48 ∷ 48 ∷ []

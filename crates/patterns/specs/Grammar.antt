-- The grammar of patterns (document 02, R-6): which bytes are which pattern.
--
--   alternatives ::= sequence | alternatives '|' sequence
--   sequence     ::= nothing | sequence item
--   item         ::= a letter a to p | '(' alternatives ')' | item '*'
--
-- So `|` binds loosest and `*` tightest; a `*` stands after a letter, a closing bracket or another
-- `*`; and an empty alternative, pattern or bracket is the empty text.
--
--   Level            what the bytes are parsed as: one of these three
--   Parses l b p     as that, the bytes b are the pattern p
--   StandsFor p b    the bytes b are the pattern p: a pattern's bytes are alternatives
use Rattle.std.specs.Prelude.{List, [], ◌∷◌, ◌++◌, ℕ, ◌+◌, ◌<◌}
use Rattle.limits.specs.Limits.{most_symbols}
use Rattle.patterns.specs.Patterns.{Pattern, empty, letter, then, or, star}

pub data Level : Type 0 where
  alternatives : Level
  sequence : Level
  item : Level

pub data Parses : Level → List ℕ → Pattern → Type 0 where
  -- a is 97 and symbol 0, p is 112 and symbol 15
  a_letter : {s : ℕ} → s < most_symbols → Parses item ((97 + s) ∷ []) (letter s)
  -- ( is 40, ) is 41
  brackets : {b : List ℕ} {p : Pattern} → Parses alternatives b p → Parses item (40 ∷ (b ++ (41 ∷ []))) p
  -- * is 42
  a_star : {b : List ℕ} {p : Pattern} → Parses item b p → Parses item (b ++ (42 ∷ [])) (star p)
  nothing : Parses sequence [] empty
  next : {b c : List ℕ} {p q : Pattern} → Parses sequence b p → Parses item c q → Parses sequence (b ++ c) (then p q)
  first : {b : List ℕ} {p : Pattern} → Parses sequence b p → Parses alternatives b p
  -- | is 124
  other : {b c : List ℕ} {p q : Pattern} → Parses alternatives b p → Parses sequence c q → Parses alternatives (b ++ (124 ∷ c)) (or p q)

abbrev pub StandsFor : Pattern → List ℕ → Type 0
StandsFor p b = Parses alternatives b p

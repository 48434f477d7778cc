-- Patterns as trees, and the texts of a pattern (document 02, R-6). No program computes anything
-- here.
--
--   Pattern       the empty text; a letter, which is a symbol; one pattern and then another; one or
--                 the other; a pattern any number of times
--   Joined L M w  w is a text of L and then one of M
--   Times L w     w is any number of texts of L, one after the other
--   Matches p w   the text w is one of the pattern p
--   letters p     the letters of p, from the left
--   count p       how many they are
use Rattle.std.specs.Prelude.{◌≡◌, ◌⊎◌, List, [], ◌∷◌, ◌++◌, ℕ, ◌+◌}

pub data Pattern : Type 0 where
  empty : Pattern
  letter : ℕ → Pattern
  then : Pattern → Pattern → Pattern
  or : Pattern → Pattern → Pattern
  star : Pattern → Pattern

pub record Joined (L M : List ℕ → Type 0) (w : List ℕ) : Type 0 where
  pub front : List ℕ
  pub back : List ℕ
  pub whole : w ≡ front ++ back
  pub left : L front
  pub right : M back

pub data Times (L : List ℕ → Type 0) : List ℕ → Type 0 where
  none : Times L []
  more : {u v : List ℕ} → L u → Times L v → Times L (u ++ v)

abbrev pub Matches : Pattern → List ℕ → Type 0
Matches empty w = w ≡ []
Matches (letter s) w = w ≡ s ∷ []
Matches (then p q) w = Joined (Matches p) (Matches q) w
Matches (or p q) w = Matches p w ⊎ Matches q w
Matches (star p) w = Times (Matches p) w

abbrev pub letters : Pattern → List ℕ
letters empty = []
letters (letter s) = s ∷ []
letters (then p q) = letters p ++ letters q
letters (or p q) = letters p ++ letters q
letters (star p) = letters p

abbrev pub count : Pattern → ℕ
count empty = 0
count (letter s) = 1
count (then p q) = count p + count q
count (or p q) = count p + count q
count (star p) = count p

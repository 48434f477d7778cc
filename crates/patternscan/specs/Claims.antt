-- What is claimed of the bytes of patterns; proofs/Claims.antt proves it.
use Rattle.std.specs.Prelude.{◌≡◌, ◌↔◌, true, List, ℕ}
use Rattle.patterns.specs.Patterns.{Pattern, letters}
use Rattle.patterns.specs.Grammar.{StandsFor}
use Rattle.patternscan.specs.Signs.{letters_in}
use Rattle.patternscan.specs.Scanning.{grammatical}

pub record Claims : Type 0 where
  -- the test says yes exactly where the bytes are a pattern
  pub decides : (b : List ℕ) → (grammatical b ≡ true) ↔ (p : Pattern) × StandsFor p b
  -- and then the letters of the pattern are those among the bytes
  pub lettered : (p : Pattern) (b : List ℕ) → StandsFor p b → letters_in b ≡ letters p
  -- and there is one pattern: `*` and `|` bind one way only
  pub one_tree : (p q : Pattern) (b : List ℕ) → StandsFor p b → StandsFor q b → p ≡ q

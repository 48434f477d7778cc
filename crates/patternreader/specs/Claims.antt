-- What is claimed of reading a pattern; proofs/Claims.antt proves it.
use Rattle.std.specs.Prelude.{◌≡◌, List, ℕ, ◌≤◌, length}
use Rattle.patterns.specs.Limits.{longest_pattern}
use Rattle.patterns.specs.Patterns.{Pattern}
use Rattle.patterns.specs.Grammar.{StandsFor}
use Rattle.patterns.specs.Positions.{position_rule}
use Rattle.patterns.specs.Claims.{Few}
use Rattle.patternreader.specs.Reader.{after_bytes, beginning, finished, Positions}
use Rattle.patternreader.specs.Rules.{rule_read}

pub record Claims : Type 0 where
  -- reading the bytes gives the sets of the positions of every pattern that they stand for
  pub positions : (p : Pattern) (b : List ℕ) → StandsFor p b → length b ≤ longest_pattern → Few p
      → Positions (finished (after_bytes beginning b)) p
  -- and so the rule of its positions
  pub rule : (p : Pattern) (b : List ℕ) → StandsFor p b → length b ≤ longest_pattern → Few p → rule_read b ≡ position_rule p

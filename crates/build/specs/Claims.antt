-- What a built rule means, for every well-formed rule with at most 512 sets; proofs/Claims.antt
-- proves it. What its sets and its table are is claimed in crates/subsets.
use Rattle.std.specs.Prelude.{◌≡◌, ℕ, ◌<◌, get_or}
use Rattle.masks.specs.Masks.{single}
use Rattle.automaton.specs.declared.Rule.{Rule}
use Rattle.automaton.specs.Rules.{automaton_of, WellFormed}
use Rattle.subsets.specs.Claims.{fits}
use Rattle.delegates.specs.Alike.{Merged}
use Rattle.build.specs.mirror.Building.{built_of}

pub record Claims : Type 0 where
  -- its delegates are, for each state from which a final state can be reached, the lowest alike
  -- one, and none for any other; and its number of starts is M
  pub delegates : (r : Rule) → WellFormed r → fits r → Merged (automaton_of r) (built_of r).delegates (built_of r).startcount
  -- the number of {q} names the mask of {q}
  pub singles : (r : Rule) → WellFormed r → fits r → (q : ℕ) → q < r.n
      → (get_or (built_of r).singles q 0 < (built_of r).setcount) × (get_or (built_of r).sets (get_or (built_of r).singles q 0) 0 ≡ single q)

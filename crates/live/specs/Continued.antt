-- Which texts can be continued to one that is accepted.
--
--   Continued a w     some text can follow the text w so that the automaton a accepts both together
--   AcceptsIn r m v   an accepting run over v starts in a state of the set m
--   CanEnd r m v      some text continues v to one over which such a run starts
use Rattle.std.specs.Prelude.{List, ◌++◌, ℕ}
use Rattle.masks.specs.Masks.{◌∈◌}
use Rattle.automaton.specs.declared.Rule.{Rule}
use Rattle.automaton.specs.Automaton.{Automaton, Accepts}
use Rattle.automaton.specs.Rules.{automaton_of}
use Rattle.delegates.specs.Alike.{AcceptsFrom}

pub record Continued (a : Automaton) (w : List ℕ) : Type 0 where
  pub rest : List ℕ
  pub accepts : Accepts a (w ++ rest)

module _ (r : Rule) (m : ℕ) where
  pub record AcceptsIn (v : List ℕ) : Type 0 where
    pub from : ℕ
    pub member : from ∈ m
    pub accepts : AcceptsFrom (automaton_of r) from v

  pub record CanEnd (v : List ℕ) : Type 0 where
    pub rest : List ℕ
    pub accepts : AcceptsIn (v ++ rest)

-- What runs count, in other words than sums: how many bytes there are over which a run goes.
--
--   HowMany P n c     of the numbers below n exactly c are P's
--   RunsOver a q w    the automaton a has a run from the state q over the text w
--   Counts r run w q i   byte i of the chunk w counts for the state q, where `run` has the states that
--                     the chunk is run from: q is one of them, and a run from q goes over the bytes up
--                     to this one, which it has with it
use Rattle.std.specs.Prelude.{List, ℕ, suc, ◌<◌, length, take}
use Rattle.masks.specs.Masks.{◌∈◌}
use Rattle.automaton.specs.declared.Rule.{Rule}
use Rattle.automaton.specs.Automaton.{Automaton, Run}
use Rattle.automaton.specs.Rules.{automaton_of}

pub data HowMany (P : ℕ → Type 0) : ℕ → ℕ → Type 0 where
  none_yet : HowMany P 0 0
  one_more : {n c : ℕ} → HowMany P n c → P n → HowMany P (suc n) (suc c)
  no_more : {n c : ℕ} → HowMany P n c → (P n → ⊥) → HowMany P (suc n) c

abbrev pub RunsOver : Automaton → ℕ → List ℕ → Type 0
RunsOver a q w = (p : ℕ) × Run a q w p

pub record Counts (r : Rule) (run : ℕ) (w : List ℕ) (q i : ℕ) : Type 0 where
  pub started : q ∈ run
  pub byte : i < length w
  pub goes : RunsOver (automaton_of r) q (take (suc i) w)

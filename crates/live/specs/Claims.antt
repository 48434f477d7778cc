-- What is claimed of the live states, for every well-formed rule; proofs/Claims.antt proves it.
use Rattle.std.specs.Prelude.{◌≡◌, ◌↔◌, true, List, ℕ}
use Rattle.masks.specs.Masks.{◌∈◌, shares}
use Rattle.automaton.specs.declared.Rule.{Rule}
use Rattle.automaton.specs.Rules.{automaton_of, WellFormed}
use Rattle.automaton.specs.Successor.{after}
use Rattle.delegates.specs.Alike.{Live}
use Rattle.live.specs.Live.{live_of}
use Rattle.live.specs.Continued.{Continued, CanEnd}

pub record Claims : Type 0 where
  -- the mask of live states has those from which a final state can be reached
  pub live : (r : Rule) → WellFormed r → (q : ℕ) → q ∈ live_of r ↔ Live (automaton_of r) q
  -- a text can be continued, from any set of states and from the initial ones, exactly where a live
  -- state is in the set after it
  pub can_end : (r : Rule) → WellFormed r → (m : ℕ) (v : List ℕ)
      → CanEnd r m v ↔ (shares (after r.targets m v) (live_of r) ≡ true)
  pub continued : (r : Rule) → WellFormed r → (w : List ℕ)
      → Continued (automaton_of r) w ↔ (shares (after r.targets r.initials w) (live_of r) ≡ true)

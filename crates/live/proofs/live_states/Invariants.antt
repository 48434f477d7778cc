-- `live_states` meets its contract. Where a round adds nothing, no later one does. Assumes nothing.
use mathlib.Core.Path.{◌≡◌}
use Rattle.live.specs.Live.{within}
use Rattle.live.proofs.live_states.Given as goal

abbrev pub invariant-loop-round : goal.invariant-loop-round
invariant-loop-round l = l.live ≡ within l.targets l.finals l._round

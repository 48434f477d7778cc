-- `kept` meets its contract. Where a round adds nothing, no later one does. Assumes nothing.
use mathlib.Core.Path.{◌≡◌}
use Rattle.reducing.specs.Reduced.{delegated, rounds}
use Rattle.reduce.proofs.kept.Given as goal

abbrev pub invariant-loop-round : goal.invariant-loop-round
invariant-loop-round l = l.set ≡ rounds l.targets l.delegates (delegated l.delegates l.initials) l._round

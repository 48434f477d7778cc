-- `next_symbols` meets its contract. Assumes nothing.
use Rattle.std.proofs.Common.{◌≡◌}
use Rattle.follow.specs.Following.{next_by}
use Rattle.follow.proofs.next_symbols.Given as goal

abbrev pub invariant-loop-s : goal.invariant-loop-s
invariant-loop-s l = l.mask ≡ next_by l.targets l.live l.s l.set

-- `share` meets its contract. The loop's invariant is `Held`. Assumes nothing.
use mathlib.Core.Path.{◌≡◌}
use lib.ListN.{length}
use Rattle.blocks.proofs.Lanes.{Held}
use Rattle.blocks.proofs.share.Given as goal

abbrev pub invariant-loop-j : goal.invariant-loop-j
invariant-loop-j l = Held l.rows l.lane l.of l.used l.j × (length l.hints ≡ 513)

-- `summed` meets its contract. Assumes nothing.
use mathlib.Core.Path.{◌≡◌}
use lib.ListN.{get_or}
use Rattle.base.specs.Totals.{total}
use Rattle.chunks.proofs.summed.Given as goal

abbrev pub invariant-loop-one : goal.invariant-loop-one
invariant-loop-one l = l.count ≡ total (λ p. get_or l.fn.counts p 0) l.one-index

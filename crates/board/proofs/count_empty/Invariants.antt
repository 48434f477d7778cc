-- `count_empty` meets its contract: the empty marks before p are counted. Assumes nothing.
use mathlib.Core.Path.{◌≡◌}
use mathlib.Core.Bool.{cond}
use Prim.Native.Nat.{◌≤◌}
use lib.Dec.{eqb}
use lib.ListN.{get_or}
use Rattle.base.specs.Totals.{total}
use Rattle.board.proofs.count_empty.Given as goal

abbrev pub invariant-loop-p : goal.invariant-loop-p
invariant-loop-p g l = (l.empty ≤ l.p) × (l.empty ≡ total (λ i. cond (eqb (get_or l.filled i 0) 0) 1 0) l.p)

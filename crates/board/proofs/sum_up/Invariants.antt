-- `sum_up` meets its contract: the numbers before p are summed, and each is below 2 ^ 32. Assumes
-- nothing.
use mathlib.Core.Path.{◌≡◌}
use Prim.Native.Nat.{◌*◌, ◌≤◌}
use lib.ListN.{get_or}
use Rattle.base.specs.Totals.{total}
use Rattle.board.proofs.sum_up.Given as goal

abbrev pub invariant-loop-p : goal.invariant-loop-p
invariant-loop-p l = (l.sum ≤ l.p * 4294967296) × (l.sum ≡ total (λ i. get_or l.numbers i 0) l.p)

-- `has_gap` meets its contract: no place passed is empty. Assumes nothing.
use mathlib.Core.Path.{◌≡◌}
use mathlib.Core.Bool.{false}
use lib.Dec.{eqb}
use lib.ListN.{get_or}
use Rattle.base.specs.Conditions.{any_below}
use Rattle.locating.proofs.has_gap.Given as goal

abbrev pub invariant-loop-p : goal.invariant-loop-p
invariant-loop-p l = any_below (λ i. eqb (get_or l.filled i 0) 0) l.p ≡ false

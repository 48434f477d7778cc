-- `some_left` meets its contract: every end set passed is empty. Assumes nothing.
use mathlib.Core.Path.{◌≡◌}
use mathlib.Core.Bool.{false}
use lib.Dec.{ltb}
use lib.ListN.{get_or}
use Rattle.base.specs.Conditions.{any_below}
use Rattle.locating.proofs.some_left.Given as goal

abbrev pub invariant-loop-end : goal.invariant-loop-end
invariant-loop-end l = any_below (λ i. ltb 0 (get_or l.fn.ends i 0)) l.end-index ≡ false

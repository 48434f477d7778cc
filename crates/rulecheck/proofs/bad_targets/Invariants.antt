-- `bad_targets` meets its contract. The loop's invariant: no cell passed is bad. Assumes nothing.
use mathlib.Core.Bool.{false}
use mathlib.Core.Path.{◌≡◌}
use Rattle.base.specs.Conditions.{any_below}
use Rattle.rulecheck.specs.Checking.{bad_cell}
use Rattle.rulecheck.proofs.bad_targets.Given as goal

abbrev pub invariant-loop-cell : goal.invariant-loop-cell
invariant-loop-cell l = any_below (bad_cell l.n l.k l.targets) l.cell ≡ false

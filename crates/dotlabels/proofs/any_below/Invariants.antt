-- `any_below` meets its contract. The loop's invariant: no symbol passed leads. Assumes nothing.
use mathlib.Core.Path.{◌≡◌}
use mathlib.Core.Bool.{false}
use Rattle.base.specs.Conditions.{any_below}
use Rattle.dotlabels.specs.Labels.{leads}
use Rattle.dotlabels.proofs.any_below.Given as goal

abbrev pub invariant-loop-s : goal.invariant-loop-s
invariant-loop-s l = any_below (leads l.targets l.k l.q.0 l.t.0) l.s ≡ false

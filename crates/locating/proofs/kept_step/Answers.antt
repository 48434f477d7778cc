-- `kept_step` meets its contract. Assumes nothing.
use mathlib.Core.Path.{◌∙◌}
use Prim.Native.Nat.{◌%◌}
use native.Mathlib.Omega.{arith}
use native.Mathlib.Nat.{mod-lt}
use Rattle.locating.proofs.Pruning.{step_kept, step_past}
use Rattle.locating.proofs.kept_step.Goals as goal

pub returns-then-count-set : goal.returns-then-count-set
returns-then-count-set c =
    let a = c.args in
    step_past a.sets.now a.next.now a.live a.count a.set.0 (a.byte % 16) c.requires c.if-count-set.true (mod-lt _ (omega arith))

pub returns : goal.returns
returns c =
    let a = c.args in
    c.kept_cell.ensures ∙ step_kept a.sets.now a.next.now a.live a.count a.set.0 (a.byte % 16) c.requires (omega arith) (mod-lt _ (omega arith))

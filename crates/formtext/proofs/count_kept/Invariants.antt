-- `count_kept` meets its contract. The loop's invariant: the cells of the sets passed are counted.
-- Assumes nothing.
use mathlib.Core.Path.{◌≡◌}
use Prim.Native.Nat.{◌*◌, ◌≤◌}
use Rattle.formtext.specs.FormText.{first_cell}
use Rattle.formtext.proofs.count_kept.Given as goal

abbrev pub invariant-loop-t : goal.invariant-loop-t
invariant-loop-t l = (l.t ≤ l.count) × (l.count ≤ 512) × (l.n ≤ l.t * 16) × (l.n ≡ first_cell l.kept l.t)

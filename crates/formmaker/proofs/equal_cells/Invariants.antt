-- `equal_cells` meets its contract. The loop's invariant: the count is that of the symbols passed. Assumes nothing.
use mathlib.Core.Path.{◌≡◌}
use Prim.Native.Nat.{◌≤◌}
use Rattle.forms.specs.Form.{equal_cells}
use Rattle.formmaker.proofs.equal_cells.Given as goal

abbrev pub invariant-loop-s : goal.invariant-loop-s
invariant-loop-s l = (l.count ≤ l.s) × (l.count ≡ equal_cells l.next l.s l.t l.u)

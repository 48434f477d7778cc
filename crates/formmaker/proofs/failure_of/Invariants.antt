-- `failure_of` meets its contract. Assumes nothing.
use mathlib.Core.Path.{◌≡◌}
use Prim.Native.Nat.{◌≤◌}
use Rattle.forms.specs.Form.{equal_cells, best_below}
use Rattle.formmaker.proofs.failure_of.Given as goal

abbrev pub invariant-loop-u : goal.invariant-loop-u
invariant-loop-u l = (l.best ≤ l.u) × (l.best ≡ best_below l.next l.k l.t l.u) × (l.most ≡ equal_cells l.next l.k l.t l.best)

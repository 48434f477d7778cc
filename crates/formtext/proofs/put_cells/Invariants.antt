-- `put_cells` meets its contract. The loop's invariant: the first i cells are written. Assumes nothing.
use Prim.Native.Nat.{◌+◌, ◌≤◌}
use lib.ListN.{length}
use Rattle.text.proofs.Fitting.{Put}
use Rattle.formtext.specs.FormText.{cells_text}
use Rattle.formtext.proofs.put_cells.Given as goal

abbrev pub invariant-loop-i : goal.invariant-loop-i
invariant-loop-i l = (l.i ≤ l.n) × (l.n ≤ 16) × (l.first + l.n ≤ 8192) × (l.start + 64 ≤ length l.initial.out) × Put l.initial.out l.start (cells_text l.cells l.first l.i) l.out l.at

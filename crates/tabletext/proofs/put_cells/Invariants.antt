-- `put_cells` meets its contract. The loop's invariant: the first c cells are written. Assumes
-- nothing.
use Prim.Native.Nat.{◌+◌, ◌*◌, ◌≤◌}
use lib.ListN.{length}
use Rattle.text.proofs.Fitting.{Put}
use Rattle.tabletext.specs.Answers.{cells_text}
use Rattle.tabletext.proofs.put_cells.Given as goal

abbrev pub invariant-loop-c : goal.invariant-loop-c
invariant-loop-c l =
    (l.c ≤ l.count) × (1 ≤ l.k) × (l.k ≤ 16) × (l.count ≤ 512 * l.k) × (l.start + 4 * l.count ≤ length l.initial.out)
    × Put l.initial.out l.start (cells_text l.next l.k l.c) l.out l.at

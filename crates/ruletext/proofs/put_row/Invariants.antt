-- `put_row` meets its contract. The loop's invariant: the cells of the first s symbols are written.
-- Assumes nothing.
use Prim.Native.Nat.{◌+◌, ◌*◌, ◌≤◌, ◌<◌}
use lib.ListN.{length}
use Rattle.ruletext.specs.RuleText.{row_text}
use Rattle.text.proofs.Fitting.{Put}
use Rattle.ruletext.proofs.put_row.Given as goal

abbrev pub invariant-loop-s : goal.invariant-loop-s
invariant-loop-s l =
    (l.k ≤ 16) × (l.row < 512) × (l.start + 4 * l.k ≤ length l.initial.out) × Put l.initial.out l.start (row_text l.next l.s l.row) l.out l.at

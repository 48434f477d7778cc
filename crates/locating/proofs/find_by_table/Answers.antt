-- `find_by_table` meets its contract. Assumes nothing.
use Rattle.locating.proofs.Spotting.{table_nowhere, table_after}
use Rattle.locating.proofs.find_by_table.Goals as goal

pub returns-then-some_left : goal.returns-then-some_left
returns-then-some_left c =
    let a = c.args in
    table_nowhere a.sets.now _ a.singles.now _ a.text.now _ c.prune-cut.ensures _ c.run_chunk-runs.ensures _ c.some_left.ensures
    c.if-some_left.true

pub returns : goal.returns
returns c =
    let a = c.args in
    table_after a.sets.now _ a.singles.now _ a.text.now _ c.prune-cut.ensures _ c.run_chunk-runs.ensures _ c.some_left.ensures
    c.if-some_left.false

-- `put_table` meets its contract. Assumes nothing.
use native.Mathlib.Omega.{arith}
use Rattle.text.proofs.Fitting.{put, ◌then◌}
use Rattle.tabletext.proofs.Lengths.{few_cells}
use Rattle.tabletext.proofs.put_table.Goals as goal

pub overflow_mul-count : goal.overflow_mul-count
overflow_mul-count c =
    omega (arith, c.requires, few_cells c.args.table.sets c.args.table.symbols c.requires.2)

pub put_cells-end-requires : goal.put_cells-end-requires
put_cells-end-requires c =
    let few = few_cells c.args.table.sets c.args.table.symbols c.requires.2 in
    (c.requires.0, c.requires.1, few, omega (arith, c.requires, few))

pub put_byte-requires : goal.put_byte-requires
put_byte-requires c =
    let few = few_cells c.args.table.sets c.args.table.symbols c.requires.2 in
    let w = c.put_cells-end in
    omega (arith, c.requires, few, w.ensures.1, w.auto.out)

pub returns : goal.returns
returns c =
    let few = few_cells c.args.table.sets c.args.table.symbols c.requires.2 in
    let w = c.put_cells-end.ensures in
    let u = put (omega (arith, c.requires, few, w.0.ends, w.1)) w.0 in
    let v = put (omega (arith, c.requires, few, w.1, u.kept)) c.put_byte.ensures in
    (u then v).wrote

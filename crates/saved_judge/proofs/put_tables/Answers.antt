-- `put_tables` meets its contract. Assumes nothing.
use Rattle.std.proofs.Common.{◌≡◌, length, arith, rules}
use Rattle.saved_judge.specs.Saved.{table_fields}
use Rattle.saved_judge.proofs.Goes.{all_left, next_cells, none_left}
use Rattle.saved_judge.proofs.Ways.{fields_length}
use Rattle.saved_judge.proofs.put_tables.Goals as goal

pub returns : goal.returns
returns c =
    let built = c.args.built in
    let delegates : length built.delegates ≡ 32 = search rules in
    let singles : length built.singles ≡ 32 = search rules in
    let sets : length built.sets ≡ 512 = search rules in
    let next : length built.next ≡ 8192 = search rules in
    let fs = table_fields built in
    let all = all_left c.args.out.now c.args.start fs (omega (arith, fields_length fs, c.requires)) in
    let a = next_cells all c.put_cells-a.ensures.0 in
    let b = next_cells a c.put_cells-b.ensures.0 in
    let d = next_cells b c.put_cells-c.ensures.0 in
    (none_left (next_cells d c.put_cells.ensures.0), omega (arith, c.put_cells-a.ensures.1, c.put_cells-b.ensures.1, c.put_cells-c.ensures.1, c.put_cells.ensures.1))

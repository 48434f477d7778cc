-- `digest` meets its contract. Assumes nothing.
use Rattle.std.proofs.Common.{rules}
use Rattle.digests.proofs.Laws.{digest_parts, front_cells, whole_cells}
use Rattle.digests.proofs.digest.Goals as goal

pub returns : goal.returns
returns c =
    let b = c.args.built in
    digest_parts b _ _ _ _ _ _ _ c.head-start.ensures
    (whole_cells b.delegates 32 _ _ (search rules) c.with_numbers-own.ensures)
    (whole_cells b.singles 32 _ _ (search rules) c.with_numbers-singles.ensures)
    c.with_number-counted.ensures
    c.min-count.ensures
    (front_cells b.sets _ _ _ (search rules) c.with_numbers-sets.ensures)
    (front_cells b.next _ _ _ (search rules) c.with_numbers.ensures)

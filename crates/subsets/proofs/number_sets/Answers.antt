-- `number_sets` meets its contract: the arrays begin with every cell not in use, and what `fill`
-- leaves in them is the table, the sets as masks. Assumes nothing.
use borrow.Author.Rules.{rules}
use mathlib.Core.Path.{refl}
use Rattle.base.specs.Lists.{list_from}
use Rattle.subsets.proofs.Tables.{table_whole, table_over}
use Rattle.subsets.proofs.number_sets.Goals as goal

pub fill-requires : goal.fill-requires
unfolding list_from
fill-requires c = record { keys_are = refl; next_are = refl }

pub returns : goal.returns
returns c =
    let a = c.args in
    let w = c.fill in
    let s = c.number_singles-singles in
    table_whole a.targets.now a.n a.k (search rules) w.result w.new.sets w.new.next w.ensures c.in_ok-count.count c.in_ok-count.was s.result c.masks_of-sets.result s.ensures c.masks_of-sets.ensures

pub returns-in_err-count : goal.returns-in_err-count
returns-in_err-count c =
    let a = c.args in
    let w = c.fill in
    rw c.from_residual.ensures
    (table_over a.targets.now a.n a.k (search rules) w.result w.new.sets w.new.next w.ensures c.in_err-count.was)

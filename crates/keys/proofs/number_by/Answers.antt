-- `number_by` meets its contract: nothing is numbered, which is what `add` asks for, and what it
-- leaves is the table. Assumes nothing.
use mathlib.Core.Path.{refl}
use native.Mathlib.Omega.{arith}
use lib.ListN.{replicate}
use Rattle.base.specs.Lists.{list_from}
use Rattle.numbering.proofs.Turns.{begin}
use Rattle.keys.specs.Kinds.{walk_by}
use Rattle.keys.proofs.Tables.{table_by_lem}
use Rattle.keys.proofs.number_by.Goals as goal

pub add-count-requires : goal.add-count-requires
unfolding list_from
add-count-requires c =
    let a = c.args in
    let k = c.min-symbols in record {
      count_le_most_sets = (omega arith, refl, begin (walk_by a.kind a.targets.now a.others.now k.result) 0 (replicate 512 0) (replicate 8192 0) (record { keys_are = refl; next_are = refl }));
      in_row = λ m s b _. omega (arith, k.ensures);
    }

pub returns : goal.returns
returns c =
    let a = c.args in
    let k = c.min-symbols in
    table_by_lem a.kind a.targets.now a.others.now a.k a.start k.result k.ensures c.add-count.result _ _ c.add-count.ensures

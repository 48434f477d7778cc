-- `set_row` meets its contract: the first q cells of the place's row are stored. Assumes nothing.
use borrow.Author.Rules.{rules}
use native.Mathlib.Omega.{arith}
use lib.ListN.{get_or}
use Rattle.board.proofs.Rows.{none_stored, one_stored, row_stored}
use Rattle.board.proofs.set_row.Goals as goal

pub loop-q-init : goal.loop-q-init
loop-q-init c = (omega arith, none_stored _ _ _ (search rules))

pub loop-q-preserved : goal.loop-q-preserved
loop-q-preserved c =
    let x = c.loop-q in
    let a = c.args in (
      omega arith,
      one_stored a.ends.now a.place (λ i. get_or a.row.now i 0) x.q x.ends x.invariant.1 (omega arith) (omega arith),
    )

pub returns : goal.returns
returns c =
    let x = c.loop-q in
    let a = c.args in
    row_stored a.ends.now a.place (λ i. get_or a.row.now i 0) x.q x.ends x.invariant.1 (omega arith)

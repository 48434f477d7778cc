-- `fill` meets its contract. Assumes nothing.
use Prim.Native.Nat.{◌/◌, ◌≤◌}
use lib.ListN.{length}
use borrow.Author.Rules.{rules}
use Rattle.trays.specs.Boards.{width_of, filled_at}
use Rattle.trays.proofs.Bands.{few_rows}
use Rattle.traybands.proofs.fill.Goals as goal

pub overflow_cast-filled : goal.overflow_cast-filled
overflow_cast-filled c =
    let a = c.args in
    let few : length a.bytes.now / c.width_of-width.result ≤ 64 =
    rw c.width_of-width.ensures.0 (few_rows (width_of a.board) a.bytes.now c.requires.1) in
    search rules

pub returns : goal.returns
unfolding filled_at
returns c = rw (c.width_of-width.ensures.0, c.set_band.ensures)

-- `get_cells` meets its contract. The loop's invariant: the cells passed are the numbers at their
-- places. Assumes nothing.
use Rattle.std.proofs.Common.{refl}
use Rattle.saved_judge.proofs.Steps.{got_begin, got_more, got_done}
use Rattle.saved_judge.proofs.get_cells.Goals as goal

pub loop-i-init : goal.loop-i-init
loop-i-init g c = got_begin _ _ _ _ _ _ refl c.requires

pub loop-i-preserved : goal.loop-i-preserved
loop-i-preserved g c =
    let x = c.loop-i in
    got_more _ _ _ _ _ x.cells x.i x.invariant _ _ c.loop-i-test.true c.narrow.ensures
    (rw (c.WIDTH.ensures, c.WIDTH-in-loop-i.ensures) at c.get_little.ensures.0)

pub returns : goal.returns
returns g c = let x = c.loop-i in got_done _ _ _ _ _ x.cells x.i x.invariant c.loop-i-test.false

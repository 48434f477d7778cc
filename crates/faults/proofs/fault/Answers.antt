-- `fault` meets its contract. Assumes nothing.
use Rattle.faults.proofs.Ways.{fault_21, fault_row, fault_beyond}
use Rattle.faults.proofs.fault.Goals as goal

pub returns-then-board-eq0 : goal.returns-then-board-eq0
returns-then-board-eq0 c = fault_21 c.args.tray c.if-board-eq0.true

pub returns-in-Some : goal.returns-in-Some
returns-in-Some c =
    fault_row c.args.tray c.if-board-eq0.false _ _ c.width_of-width.ensures.0 c.bands_of-bands.ensures _ c.in-Some.ensures

pub returns-in-None : goal.returns-in-None
returns-in-None c =
    fault_beyond c.args.tray c.if-board-eq0.false _ _ c.width_of-width.ensures.0 c.bands_of-bands.ensures c.in-None.ensures
    _ c.beyond_rows.ensures

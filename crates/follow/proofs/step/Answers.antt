-- `step` meets its contract: each way out by its lemma. Assumes nothing.
use Rattle.follow.proofs.Caching.{stepped_idle, stepped_beyond, stepped_known, stepped_new}
use Rattle.follow.proofs.step.Goals as goal

pub returns-then-byte-eq-IDLE : goal.returns-then-byte-eq-IDLE
returns-then-byte-eq-IDLE c =
    let a = c.args in
    stepped_idle a.targets.now a.from.now a.to.now a.rows.now c.requires.0 a.byte a.here c.requires.1 c.if-byte-eq-IDLE.true

pub returns-then-byte-ge-MOST_SYMBOLS : goal.returns-then-byte-ge-MOST_SYMBOLS
returns-then-byte-ge-MOST_SYMBOLS c =
    let a = c.args in
    stepped_beyond a.targets.now a.from.now a.to.now a.rows.now c.requires.0 a.byte a.here.set c.if-byte-ge-MOST_SYMBOLS.true c.if-byte-eq-IDLE.false

pub returns-then-from-cell : goal.returns-then-from-cell
returns-then-from-cell c =
    let a = c.args in
    stepped_known a.targets.now a.from.now a.to.now a.rows.now c.requires.0 a.byte a.here.set a.here.row
    c.if-byte-ge-MOST_SYMBOLS.false c.requires.1 c.if-from-cell.true

pub returns : goal.returns
returns c =
    let a = c.args in
    stepped_new a.targets.now a.from.now a.to.now a.rows.now c.requires.0 a.byte a.here.set a.here.row
    c.if-byte-ge-MOST_SYMBOLS.false c.requires.1 c.successor-next.result c.row_of-row.result c.successor-next.ensures c.row_of-row.ensures

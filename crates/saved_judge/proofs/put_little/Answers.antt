-- `put_little` meets its contract. The loop's invariant: what is left is to be written there.
-- Assumes nothing.
use Rattle.saved_judge.proofs.Steps.{digits_begin, digits_room, digits_more, digits_done}
use Rattle.saved_judge.proofs.put_little.Goals as goal

pub loop-init : goal.loop-init
loop-init c = digits_begin _ _ _ _ c.requires

pub put_byte-at-requires : goal.put_byte-at-requires
put_byte-at-requires c = let x = c.loop in digits_room _ _ _ _ x.out x.at x.counter x.rest x.invariant c.loop-test.true

pub loop-preserved : goal.loop-preserved
loop-preserved c =
    let x = c.loop in
    digits_more _ _ _ _ x.out x.at x.counter x.rest x.invariant c.loop-test.true c.put_byte-at.ensures

pub returns : goal.returns
returns c = let x = c.loop in digits_done _ _ _ _ x.out x.at x.counter x.rest x.invariant c.loop-test.false

-- `get_little` meets its contract. The loop's invariant: the number is what the bytes passed say.
-- Assumes nothing.
use Rattle.std.proofs.Common.{◌+◌, ◌-◌, arith}
use Rattle.saved_judge.proofs.Steps.{read_begin, read_fits, read_more, read_done}
use Rattle.saved_judge.proofs.get_little.Goals as goal

pub loop-i-init : goal.loop-i-init
loop-i-init c = read_begin _ _ _ c.requires.0 c.requires.1

pub overflow_mul-number : goal.overflow_mul-number
overflow_mul-number c =
    let x = c.loop-i in
    let b = read_fits _ _ _ x.number x.i x.invariant c.loop-i-test.true in
    record { fits = omega arith }

pub overflow_add-number-in-loop-i : goal.overflow_add-number-in-loop-i
overflow_add-number-in-loop-i c =
    let x = c.loop-i in
    let b = read_fits _ _ _ x.number x.i x.invariant c.loop-i-test.true in
    record { fits = omega (arith, c.type_inv.bytes (c.args.at + (x.i - 1))) }

pub loop-i-preserved : goal.loop-i-preserved
loop-i-preserved c =
    let x = c.loop-i in
    read_more _ _ _ x.number x.i x.invariant c.loop-i-test.true (omega (arith, c.type_inv.bytes (c.args.at + (x.i - 1))))

pub returns : goal.returns
returns c = let x = c.loop-i in read_done _ _ _ x.number x.i x.invariant c.loop-i-test.false

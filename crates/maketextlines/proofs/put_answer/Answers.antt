-- `put_answer` meets its contract. Assumes nothing.
use mathlib.Core.Path.{sym}
use native.Mathlib.Omega.{arith}
use lib.ListN.{take}
use Rattle.maketextlines.proofs.Writing.{length_most, made_to, malformed_to, prefix}
use Rattle.maketextlines.proofs.put_answer.Goals as goal

pub slice_bounds-put_made-end : goal.slice_bounds-put_made-end
slice_bounds-put_made-end c = omega (arith, c.requires.0, length_most c.args.line.now _ c.in-Some.ensures)

pub slice_bounds-put_made-end-2 : goal.slice_bounds-put_made-end-2
slice_bounds-put_made-end-2 c =
    prefix c.in-Some.made.length c.args.buffer.now (omega (arith, c.requires.0, length_most c.args.line.now _ c.in-Some.ensures))

pub put_made-requires : goal.put_made-requires
put_made-requires c =
    let most = length_most c.args.line.now _ c.in-Some.ensures in
    (omega (arith, prefix c.in-Some.made.length c.args.buffer.now (omega (arith, c.requires.0))), c.requires.1)

pub returns : goal.returns
returns c =
    let n = c.in-Some.made.length in
    let most = length_most c.args.line.now _ c.in-Some.ensures in
    let size = prefix n c.args.buffer.now (omega (arith, c.requires.0)) in
    made_to c.args.line.now _ c.in-Some.ensures (take n c.args.buffer.now) (sym size) c.put_made.ensures

pub returns-in_default : goal.returns-in_default
returns-in_default c = malformed_to c.args.line.now c.in_default.ensures c.put_malformed.ensures

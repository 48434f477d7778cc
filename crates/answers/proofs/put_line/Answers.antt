-- `put_line` meets its contract. Assumes nothing.
use borrow.Author.Rules.{rules}
use Rattle.answers.proofs.Lines.{word_room, byte_room, begun, room_for, one_more, ended}
use Rattle.answers.proofs.put_line.Goals as goal

pub put_bytes-end-requires : goal.put_bytes-end-requires
put_bytes-end-requires c = word_room c.args.at c.args.word.now c.args.numbers.now c.requires

pub loop-number-init : goal.loop-number-init
loop-number-init c = begun _ _ _ c.put_bytes-end.ensures c.requires

pub put_byte-end-requires : goal.put_byte-end-requires
put_byte-end-requires c = byte_room _ _ _ c.loop-number.invariant

pub put_decimal-end-requires : goal.put_decimal-end-requires
put_decimal-end-requires c =
    let w = c.put_byte-end in
    room_for _ _ _ c.loop-number.invariant c.loop-number-test.true w.ensures

pub loop-number-preserved : goal.loop-number-preserved
loop-number-preserved c =
    one_more _ _ _ c.loop-number.invariant c.loop-number-test.true c.put_byte-end.ensures c.put_decimal-end.ensures

pub put_byte-requires : goal.put_byte-requires
put_byte-requires c = byte_room _ _ _ c.loop-number.invariant

pub returns : goal.returns
returns c =
    ended _ _ _ c.put_bytes-end.ensures c.requires c.loop-number.invariant c.loop-number-test.false c.put_byte.ensures

pub shape_of-out : goal.shape_of-out
shape_of-out = (search rules)

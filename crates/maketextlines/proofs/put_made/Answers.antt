-- `put_made` meets its contract. Assumes nothing.
use native.Mathlib.Omega.{arith}
use Rattle.maketextlines.proofs.Writing.{byte_left, made_line, refused_line_lem}
use Rattle.maketextlines.proofs.put_made.Goals as goal

pub put_byte-requires : goal.put_byte-requires
put_byte-requires c =
    let m = c.make_text in
    byte_left m.new.text c.requires.1 (omega (arith, c.requires.0, m.auto.text)) c.put_field-end.ensures

pub returns-in-Ok : goal.returns-in-Ok
returns-in-Ok c =
    let m = c.make_text in
    made_line m.new.text c.requires.1 (omega (arith, c.requires.0, m.auto.text)) c.put_field-end.ensures c.args.k c.args.seed c.args.text.now c.in-Ok.ensures c.put_byte.ensures

pub returns-in-Err : goal.returns-in-Err
returns-in-Err c =
    refused_line_lem c.args.k c.args.seed c.args.text.now _ _ c.in-Err.ensures (rw (← c.number.ensures) c.put_refused.ensures)

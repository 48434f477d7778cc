-- `put_cell` meets its contract. Assumes nothing.
use native.Mathlib.Omega.{arith}
use borrow.Author.Tests.{lt-ltb, le-ltb}
use Rattle.text.proofs.Fitting.{put, ◌then◌}
use Rattle.ruletext.proofs.Lengths.{number_most}
use Rattle.ruletext.proofs.put_cell.Goals as goal

pub put_decimal-requires : goal.put_decimal-requires
put_decimal-requires c =
    let w = c.put_byte-number in
    let d = number_most c.args.to.0 (omega (arith, c.if-to-lt-EMPTY.true)) in
    omega (arith, c.requires, w.ensures.ends, w.auto.out)

pub returns-then-to-lt-EMPTY : goal.returns-then-to-lt-EMPTY
returns-then-to-lt-EMPTY c =
    let t = c.if-to-lt-EMPTY.true in
    let d = number_most c.args.to.0 (omega arith) in
    let u = put (omega (arith, c.requires)) c.put_byte-number.ensures in
    let v = put (omega (arith, c.requires, u.kept, u.wrote.ends)) c.put_decimal.ensures in
    rw (lt-ltb c.args.to.0 512 t) (u then v).wrote

pub returns-else-to-lt-EMPTY : goal.returns-else-to-lt-EMPTY
returns-else-to-lt-EMPTY c =
    let u = put (omega (arith, c.requires)) c.put_byte-number.ensures in
    let v = put (omega (arith, c.requires, u.kept, u.wrote.ends)) c.put_byte.ensures in
    rw (le-ltb c.args.to.0 512 c.if-to-lt-EMPTY.false) (u then v).wrote

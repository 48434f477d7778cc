-- `put_field` meets its contract. Assumes nothing.
use native.Mathlib.Omega.{arith}
use Rattle.text.proofs.Fitting.{put, ◌then◌}
use Rattle.ruletext.proofs.Lengths.{byte_most}
use borrow.Author.Rules.{rules}
use Rattle.ruletext.proofs.put_field.Goals as goal

pub put_decimal-requires : goal.put_decimal-requires
put_decimal-requires c =
    let w = c.put_byte-digits in
    omega (arith, c.requires, w.ensures.ends, w.auto.out, byte_most c.args.q.0 (search rules))

pub returns : goal.returns
returns c =
    let d = byte_most c.args.q.0 (search rules) in
    let u = put (omega (arith, c.requires)) c.put_byte-digits.ensures in
    let v = put (omega (arith, c.requires, d, u)) c.put_decimal.ensures in
    (u then v).wrote

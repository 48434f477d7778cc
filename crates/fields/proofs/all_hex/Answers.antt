-- `all_hex` meets its contract. The loop's invariant: the bytes before i are hex digits. Assumes
-- nothing.
use mathlib.Core.Path.{refl, sym, ◌∙◌}
use native.Mathlib.Omega.{arith}
use borrow.Author.Rules.{rules}
use Rattle.fields.proofs.Pairs.{hex_stray, hex_on, hex_end}
use Rattle.fields.proofs.all_hex.Goals as goal

pub loop-byte-init : goal.loop-byte-init
loop-byte-init c = (search rules, refl)

pub hex_value-requires : goal.hex_value-requires
hex_value-requires c = tt

pub returns-then-hex_value-ge16 : goal.returns-then-hex_value-ge16
returns-then-hex_value-ge16 c =
    let l = c.loop-byte in
    let w = c.args.field.now in
    let here = c.loop-byte-test.true in
    let v = c.hex_value.ensures in
    sym (l.invariant.1 ∙ hex_stray w l.byte-index here (omega (arith, v)))

pub loop-byte-preserved : goal.loop-byte-preserved
loop-byte-preserved c =
    let l = c.loop-byte in
    let w = c.args.field.now in
    let here = c.loop-byte-test.true in
    let v = c.hex_value.ensures in
    (search rules, l.invariant.1 ∙ hex_on w l.byte-index here (omega (arith, v)))

pub returns : goal.returns
returns c =
    let l = c.loop-byte in
    sym (l.invariant.1 ∙ hex_end c.args.field.now l.byte-index c.loop-byte-test.false)

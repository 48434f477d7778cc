-- `read_number` meets its contract. The loop's invariant: the field says what the bytes from i on
-- say after digits of the value. Assumes nothing.
use mathlib.Core.Path.{sym, ◌∙◌}
use Prim.Native.Nat.{◌+◌, ◌*◌, ◌-◌}
use native.Mathlib.Omega.{arith}
use borrow.Author.Rules.{rules}
use lib.ListN.{get_or, drop}
use Rattle.fields.proofs.Digits.{said_over, said_short, said_long, said_whole, said_end, said_low, said_high, said_digit}
use Rattle.fields.proofs.read_number.Goals as goal

pub returns-then-field-eq0 : goal.returns-then-field-eq0
returns-then-field-eq0 c = sym (said_short c.args.field.now c.if-field-eq0.true)

pub returns-then-field-gt-DIGITS : goal.returns-then-field-gt-DIGITS
returns-then-field-gt-DIGITS c = sym (said_long c.args.field.now c.if-field-gt-DIGITS.true)

pub loop-c-init : goal.loop-c-init
loop-c-init c = (search rules, omega arith, said_whole c.args.field.now (omega arith) c.if-field-gt-DIGITS.false)

pub returns-then-c-lt48 : goal.returns-then-c-lt48
returns-then-c-lt48 c =
    let l = c.loop-c in
    let w = c.args.field.now in
    let here = c.loop-c-test.true in
    sym (l.invariant.2 ∙ said_low w l.value l.c-index here c.if-c-lt48.true)

pub returns-then-c-gt57 : goal.returns-then-c-gt57
returns-then-c-gt57 c =
    let l = c.loop-c in
    let w = c.args.field.now in
    let here = c.loop-c-test.true in
    sym (l.invariant.2 ∙ said_high w l.value l.c-index here c.if-c-gt57.true)

pub returns-then-value-gt-TENTH : goal.returns-then-value-gt-TENTH
returns-then-value-gt-TENTH c =
    let l = c.loop-c in
    let w = c.args.field.now in
    let here = c.loop-c-test.true in
    let low = c.if-c-lt48.false in
    let high = c.if-c-gt57.false in
    sym (l.invariant.2 ∙ said_digit w l.value l.c-index here low high ∙ said_over (10 * l.value + (get_or w l.c-index 0 - 48)) (drop (l.c-index + 1) w) (omega arith))

pub returns-then-value-digit : goal.returns-then-value-digit
returns-then-value-digit c =
    let l = c.loop-c in
    let w = c.args.field.now in
    let here = c.loop-c-test.true in
    let low = c.if-c-lt48.false in
    let high = c.if-c-gt57.false in
    sym (l.invariant.2 ∙ said_digit w l.value l.c-index here low high ∙ said_over (10 * l.value + (get_or w l.c-index 0 - 48)) (drop (l.c-index + 1) w) (omega arith))

pub loop-c-preserved : goal.loop-c-preserved
loop-c-preserved c =
    let l = c.loop-c in
    let w = c.args.field.now in
    let here = c.loop-c-test.true in
    let low = c.if-c-lt48.false in
    let high = c.if-c-gt57.false in
    (search rules, omega arith, l.invariant.2 ∙ said_digit w l.value l.c-index here low high)

pub returns : goal.returns
returns c =
    let l = c.loop-c in
    sym (l.invariant.2 ∙ said_end c.args.field.now l.value l.c-index c.loop-c-test.false l.invariant.1)

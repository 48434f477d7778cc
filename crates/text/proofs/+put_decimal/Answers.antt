-- `put_decimal` meets its contract: the digits of a tenth, and then the last digit. Assumes nothing.
use mathlib.Core.List.{[], ◌∷◌}
use Rattle.text.proofs.Digits.{one_digit, decimal_more, one_length, more_length}
use Rattle.text.proofs.Pieces.{wrote_more}
use Rattle.text.specs.Numerals.{decimal}
use native.Mathlib.Omega.{arith}
use Prim.Native.Nat.{◌+◌, ◌/◌, ◌%◌}
use Rattle.text.proofs.+put_decimal.Goals as goal

pub put_byte-requires : goal.put_byte-requires
put_byte-requires t c = omega (arith, one_length c.args.n c.if-n-lt10.true, c.requires)

pub returns-then-n-lt10 : goal.returns-then-n-lt10
returns-then-n-lt10 t c = rw (one_digit 19 c.args.n c.if-n-lt10.true) c.put_byte.ensures

pub put_decimal-last-requires : goal.put_decimal-last-requires
put_decimal-last-requires t c =
    (omega (arith, c.decreases, c.if-n-lt10.false), omega (arith, c.requires, more_length c.args.n c.ranges.n.fits c.if-n-lt10.false))

pub put_byte-requires-2 : goal.put_byte-requires-2
put_byte-requires-2 t c =
    let w = c.put_decimal-last in
    omega (arith, c.requires, more_length c.args.n c.ranges.n.fits c.if-n-lt10.false, w.ensures.ends, w.auto.out)

pub returns : goal.returns
returns t c =
    let a = c.args in
    let w = c.put_decimal-last in
    let v = c.put_byte-2 in
    let l = more_length a.n c.ranges.n.fits c.if-n-lt10.false in
    rw (decimal_more a.n c.ranges.n.fits c.if-n-lt10.false)
    (wrote_more a.out.now a.at (decimal (a.n / 10)) ((48 + a.n % 10) ∷ []) (omega (arith, c.requires)) w.new.out v.new.out w.result v.result w.ensures v.ensures)

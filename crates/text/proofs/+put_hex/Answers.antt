-- `put_hex` meets its contract: the digits of a sixteenth, and then the last digit. Assumes nothing.
use mathlib.Core.List.{[], ◌∷◌}
use Rattle.text.proofs.Digits.{hex_none, hex_more, hex_length}
use Rattle.text.proofs.Pieces.{wrote_none, wrote_more}
use Rattle.text.specs.Writing.{Wrote}
use Rattle.text.specs.Numerals.{hex, hex_digit}
use native.Mathlib.Omega.{arith}
use mathlib.Core.Path.{◌≡◌}
use Prim.Native.Nat.{◌+◌, ◌-◌, ◌/◌, ◌%◌}
use Rattle.text.proofs.+put_hex.Goals as goal

pub returns-then-width-eq0 : goal.returns-then-width-eq0
returns-then-width-eq0 t c =
    let a = c.args in
    rw (c.if-width-eq0.true, hex_none a.n) (wrote_none a.out.now a.at)

pub put_hex-last-requires : goal.put_hex-last-requires
put_hex-last-requires t c = (omega (arith, c.decreases, c.if-width-eq0.false), omega (arith, c.requires))

pub put_byte-requires : goal.put_byte-requires
put_byte-requires t c =
    let w = c.put_hex-last in
    omega (arith, c.requires, w.ensures.ends, w.auto.out, hex_length (c.args.width - 1) (c.args.n / 16), c.if-width-eq0.false)

pub returns : goal.returns
returns t c =
    let a = c.args in
    let w = c.put_hex-last in
    let v = c.put_byte in
    let d = c.hex_digit in
    let e : a.width ≡ a.width - 1 + 1 = omega (arith, c.if-width-eq0.false) in
    let l = hex_length (a.width - 1) (a.n / 16) in
    let last : Wrote w.new.out w.result (hex_digit (a.n % 16) ∷ []) v.new.out v.result = rw d.ensures at v.ensures in
    rw (e, hex_more (a.width - 1) a.n)
    (wrote_more a.out.now a.at (hex (a.width - 1) (a.n / 16)) (hex_digit (a.n % 16) ∷ []) (omega (arith, c.requires)) w.new.out v.new.out w.result v.result w.ensures last)

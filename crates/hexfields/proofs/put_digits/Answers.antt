-- `put_digits` meets its contract: the digits of the first i bytes are written. Assumes nothing.
use mathlib.Core.Path.{◌≡◌, refl, ap, ◌∙◌}
use Prim.Native.Nat.{◌*◌}
use native.Mathlib.Omega.{arith}
use lib.ListN.{length, get_or, take}
use lib.Seq.{take_all, length-take-le}
use Rattle.text.proofs.Digits.{hex_length}
use Rattle.text.proofs.Fitting.{put, ◌then◌}
use Rattle.text.proofs.Pieces.{wrote_none}
use Rattle.fields.specs.Claims.{digits_of}
use Rattle.hexfields.proofs.Digits.{digits_length, digits_none, digits_more}
use Rattle.hexfields.proofs.put_digits.Goals as goal

pub loop-byte-init : goal.loop-byte-init
loop-byte-init c =
    let a = c.args in (
      omega arith,
      c.requires,
      rw (digits_none a.bytes.now) (record { wrote = wrote_none a.out.now a.at; fits = omega (arith, c.requires); kept = refl }),
    )

pub put_hex-end-requires : goal.put_hex-end-requires
put_hex-end-requires c =
    let x = c.loop-byte in
    let a = c.args in
    let done : length (digits_of (take x.byte-index a.bytes.now)) ≡ 2 * x.byte-index =
    digits_length (take x.byte-index a.bytes.now) ∙ ap (λ n. 2 * n) (length-take-le x.byte-index a.bytes.now x.invariant.0) in
    omega (arith, x.invariant.0, x.invariant.1, x.invariant.2.wrote.ends, x.invariant.2.kept)

pub loop-byte-preserved : goal.loop-byte-preserved
loop-byte-preserved c =
    let x = c.loop-byte in
    let a = c.args in
    let b = get_or a.bytes.now x.byte-index 0 in
    let done : length (digits_of (take x.byte-index a.bytes.now)) ≡ 2 * x.byte-index =
    digits_length (take x.byte-index a.bytes.now) ∙ ap (λ n. 2 * n) (length-take-le x.byte-index a.bytes.now x.invariant.0) in
    let two = hex_length 2 b in
    let new = put (omega (arith, x.invariant.1, x.invariant.2.wrote.ends, x.invariant.2.kept, two)) c.put_hex-end.ensures in (
      omega arith,
      x.invariant.1,
      rw (digits_more a.bytes.now x.byte-index (omega arith)) (x.invariant.2 then new),
    )

pub shape_of-out : goal.shape_of-out
shape_of-out c = c.loop-byte.invariant.2.kept

pub returns : goal.returns
returns c =
    let x = c.loop-byte in
    let a = c.args in
    let all : take x.byte-index a.bytes.now ≡ a.bytes.now = take_all x.byte-index a.bytes.now (omega (arith, c.loop-byte-test.false)) in
    rw all at x.invariant.2.wrote

-- `put_bytes` meets its contract. The loop's invariant: the first i bytes are written. Assumes
-- nothing.
use native.Mathlib.Nat.{add-zero, add_assoc}
use Rattle.text.proofs.Pieces.{wrote_none, wrote_byte, wrote_more}
use lib.Seq.{take-suc, take_all, length-take-le}
use lib.ListN.{length, get_or, take, set, length-set}
use native.Mathlib.Omega.{arith}
use native.Mathlib.Numerals.{add-one}
use Prim.Native.Nat.{◌+◌}
use mathlib.Core.List.{[], ◌∷◌, ◌++◌}
use mathlib.Core.Path.{◌≡◌, refl, ◌∙◌}
use Rattle.text.proofs.put_bytes.Goals as goal

pub loop-i-init : goal.loop-i-init
loop-i-init c = let a = c.args in (omega arith, c.requires, refl, rw add-zero (wrote_none a.out.now a.at))

pub loop-i-preserved : goal.loop-i-preserved
loop-i-preserved c =
    let x = c.loop-i in
    let a = c.args in
    let b = get_or a.bytes.now x.i 0 in
    let done : length (take x.i a.bytes.now) ≡ x.i = length-take-le x.i a.bytes.now x.invariant.0 in
    let new = wrote_byte x.out (a.at + x.i) b (omega (arith, x.invariant)) in
    let next : take (x.i + 1) a.bytes.now ≡ take x.i a.bytes.now ++ (b ∷ []) = rw add-one (take-suc a.bytes.now x.i 0 (omega arith)) in (
      omega arith,
      x.invariant.1,
      length-set x.out (a.at + x.i) b ∙ x.invariant.2,
      rw (next, ← add_assoc a.at x.i 1)
          (wrote_more a.out.now a.at (take x.i a.bytes.now) (b ∷ []) (omega (arith, x.invariant)) x.out (set x.out (a.at + x.i) b) (a.at + x.i) (a.at + x.i + 1) x.invariant.3 new),
    )

pub returns : goal.returns
returns c =
    let x = c.loop-i in
    let a = c.args in
    let e : x.i ≡ length a.bytes.now = omega arith in
    let all : take x.i a.bytes.now ≡ a.bytes.now = take_all x.i a.bytes.now (omega arith) in
    rw (all, e) at x.invariant.3

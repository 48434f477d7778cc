-- `put_pairs` meets its contract. The loop's invariant: the bytes of the first i pairs are written.
-- Assumes nothing.
use mathlib.Core.Path.{◌≡◌, refl, sym, ap₂, ◌∙◌}
use mathlib.Core.List.{[], ◌∷◌, ◌++◌}
use Prim.Native.Nat.{ℕ, ◌+◌, ◌*◌}
use native.Mathlib.Numerals.{add-one}
use native.Mathlib.Omega.{arith}
use lib.ListN.{length, get_or, take, set, length-set}
use lib.Seq.{take-suc, length-take-le}
use Rattle.text.proofs.Pieces.{wrote_none, wrote_byte, wrote_more}
use Rattle.fields.specs.Bytes.{pairs}
use Rattle.fields.proofs.Pairs.{pairs_at, pairs_length, pairs_all, hex_at}
use Rattle.fields.proofs.put_pairs.Goals as goal

pub loop-i-init : goal.loop-i-init
loop-i-init c = let a = c.args in (omega arith, c.requires, omega arith, refl, wrote_none a.out.now 0)

pub returns-then-field-i-lt2 : goal.returns-then-field-i-lt2
returns-then-field-i-lt2 c =
    let l = c.loop-i in
    let a = c.args in
    rw (pairs_all a.field.now l.i (length a.out.now) c.if-field-i-lt2.true l.invariant.2) l.invariant.4

pub hex_value-high-requires : goal.hex_value-high-requires
hex_value-high-requires c = tt

pub hex_value-low-requires : goal.hex_value-low-requires
hex_value-low-requires c = tt

pub overflow_mul-out : goal.overflow_mul-out
overflow_mul-out c =
    let l = c.loop-i in
    let a = c.args in
    let high = hex_at a.field.now l.invariant.1 (2 * l.i) (omega arith) in
    omega (arith, high, c.hex_value-high.ensures)

pub overflow_add-out : goal.overflow_add-out
overflow_add-out c =
    let l = c.loop-i in
    let a = c.args in
    let high = hex_at a.field.now l.invariant.1 (2 * l.i) (omega arith) in
    let low = hex_at a.field.now l.invariant.1 (2 * l.i + 1) (omega arith) in
    omega (arith, high, low, c.hex_value-high.ensures, c.hex_value-low.ensures)

pub loop-i-preserved : goal.loop-i-preserved
loop-i-preserved c =
    let l = c.loop-i in
    let a = c.args in
    let w = a.field.now in
    let b = 16 * c.hex_value-high.result + c.hex_value-low.result in
    let g = pairs_length w in
    let is : b ≡ get_or (pairs w) l.i 0 =
    ap₂ (λ (x y : ℕ). 16 * x + y) c.hex_value-high.ensures c.hex_value-low.ensures ∙ sym (pairs_at w l.i (omega arith)) in
    let next : take (l.i + 1) (pairs w) ≡ take l.i (pairs w) ++ (b ∷ []) =
    rw (add-one, is) (take-suc (pairs w) l.i 0 (omega (arith, g))) in
    let done : length (take l.i (pairs w)) ≡ l.i = length-take-le l.i (pairs w) (omega (arith, g)) in (
      omega arith,
      l.invariant.1,
      omega (arith, l.invariant),
      length-set l.out l.i b ∙ l.invariant.3,
      rw next
          (wrote_more a.out.now 0 (take l.i (pairs w)) (b ∷ []) (omega (arith, l.invariant)) l.out (set l.out l.i b) l.i (l.i + 1) l.invariant.4 (wrote_byte l.out l.i b (omega (arith, l.invariant)))),
    )

pub returns : goal.returns
returns c =
    let l = c.loop-i in
    let a = c.args in
    let e : length a.out.now ≡ l.i = omega (arith, l.invariant) in
    rw (l.invariant.3, e) l.invariant.4

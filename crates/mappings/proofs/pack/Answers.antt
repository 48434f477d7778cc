-- `pack` meets its contract: the masks from state q on are packed. Assumes nothing.
use mathlib.Core.Path.{◌≡◌, sym, ap, ◌∙◌}
use mathlib.Core.List.{List}
use Prim.Native.Nat.{ℕ, ◌+◌, ◌*◌, ◌-◌, ◌^◌, ◌≤◌, ◌<◌}
use native.Mathlib.Omega.{arith}
use lib.ListN.{get_or, drop}
use borrow.Author.Rules.{rules}
use Rattle.mappings.specs.Mappings.{Value}
use Rattle.mappings.specs.Packing.{pack}
use Rattle.mappings.proofs.Packing.{pack_none, pack_more, pack_room}
use Rattle.mappings.proofs.pack.Goals as goal

-- masks from q on are packed, and q is not yet 0
module _ (masks : List ℕ) (v : Value masks) (packed : ℕ) (q : ℕ) (some : 0 < q) (most : q ≤ 8) (is : packed ≡ pack (drop q masks)) where
  back : packed ≡ pack (drop ((q - 1) + 1) masks)
  back = let e : q ≡ (q - 1) + 1 = omega arith in is ∙ ap (λ (i : ℕ). pack (drop i masks)) e

  room : packed * 256 + get_or masks (q - 1) 0 < 2 ^ 64
  room = pack_room masks v packed (q - 1) (omega arith) back

  more : packed * 256 + get_or masks (q - 1) 0 ≡ pack (drop (q - 1) masks)
  more = pack_more masks v packed (q - 1) (omega arith) back

pub loop-q-init : goal.loop-q-init
loop-q-init c = (omega arith, sym (pack_none c.args.mapping.masks (search rules)))

pub overflow_mul-packed : goal.overflow_mul-packed
overflow_mul-packed c =
    let x = c.loop-q in
    let v : Value c.args.mapping.masks = search rules in
    record { fits = omega (arith, room _ v x.packed x.q c.loop-q-test.true x.invariant.0 x.invariant.1) }

pub overflow_add-packed : goal.overflow_add-packed
overflow_add-packed c =
    let x = c.loop-q in
    let v : Value c.args.mapping.masks = search rules in
    record { fits = room _ v x.packed x.q c.loop-q-test.true x.invariant.0 x.invariant.1 }

pub loop-q-preserved : goal.loop-q-preserved
loop-q-preserved c =
    let x = c.loop-q in
    let v : Value c.args.mapping.masks = search rules in
    (omega arith, more _ v x.packed x.q c.loop-q-test.true x.invariant.0 x.invariant.1)

pub returns : goal.returns
returns c =
    let x = c.loop-q in
    let z : x.q ≡ 0 = omega arith in
    x.invariant.1 ∙ ap (λ (q : ℕ). pack (drop q c.args.mapping.masks)) z

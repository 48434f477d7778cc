-- `put_mapping` meets its contract. The loop's invariant: the digits of the first q masks are written.
-- Assumes nothing.
use mathlib.Core.Path.{◌≡◌}
use Prim.Native.Nat.{◌+◌, ◌≤◌}
use native.Mathlib.Omega.{arith}
use lib.ListN.{length, get_or}
use Rattle.base.proofs.Lists.{length_exact}
use Rattle.text.specs.Numerals.{hex}
use Rattle.text.proofs.Digits.{hex_length}
use Rattle.text.proofs.Fitting.{put, none_put, one_more}
use Rattle.maptext.proofs.put_mapping.Goals as goal

pub loop-mask-init : goal.loop-mask-init
loop-mask-init c =
    let a = c.args in
    (omega arith, c.requires, none_put (λ i. hex 2 (get_or a.mapping.masks i 0)) a.out.now a.start (omega (arith, c.requires)))

pub put_hex-at-requires : goal.put_hex-at-requires
put_hex-at-requires c =
    let x = c.loop-mask in
    let masks = c.args.mapping.masks in
    omega (arith, x.invariant, x.invariant.2.kept, x.invariant.2.wrote.ends, length_exact (λ i. hex 2 (get_or masks i 0)) x.mask-index 2 (λ i _. hex_length 2 (get_or masks i 0)))

pub loop-mask-preserved : goal.loop-mask-preserved
loop-mask-preserved c =
    let x = c.loop-mask in
    let masks = c.args.mapping.masks in
    let w = c.put_hex-at in
    let room : x.at + 2 ≤ length x.out =
    omega (arith, x.invariant, x.invariant.2.kept, x.invariant.2.wrote.ends, length_exact (λ i. hex 2 (get_or masks i 0)) x.mask-index 2 (λ i _. hex_length 2 (get_or masks i 0))) in
    (omega arith, x.invariant.1, one_more (λ i. hex 2 (get_or masks i 0)) x.mask-index x.invariant.2 (put (omega (arith, hex_length 2 (get_or masks x.mask-index 0))) w.ensures))

pub shape_of-out : goal.shape_of-out
shape_of-out c = c.loop-mask.invariant.2.kept

pub returns : goal.returns
returns c =
    let x = c.loop-mask in
    let e : x.mask-index ≡ 8 = omega arith in
    rw e at x.invariant.2.wrote

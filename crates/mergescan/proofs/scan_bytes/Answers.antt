-- `scan_bytes` meets its contract. Assumes nothing.
use Rattle.mergescan.proofs.Kept.{all_on, all_over}
use mathlib.Core.Path.{refl, ◌∙◌}
use Rattle.mergescan.proofs.scan_bytes.Goals as goal

pub loop-byte-init : goal.loop-byte-init
loop-byte-init c = (refl, refl, refl)

pub loop-byte-preserved : goal.loop-byte-preserved
loop-byte-preserved c =
    let loop = c.loop-byte in
    let on = c.scan_on-scan in
    (on.auto.one ∙ loop.invariant.0, on.auto.two ∙ loop.invariant.1, loop.invariant.2 ∙ all_on _ _ _ _ c.loop-byte-test.true on.ensures)

pub returns : goal.returns
returns c = all_over _ _ _ _ c.loop-byte-test.false c.loop-byte.invariant.2

-- `walk` meets its contract. The invariant: what is left of the text leads from the number so far to
-- where the whole text leads from 0. Assumes nothing.
use mathlib.Core.Path.{refl, sym, ◌∙◌}
use native.Mathlib.Omega.{arith}
use Rattle.profile.proofs.Ways.{walk_more, walk_done}
use Rattle.profile.proofs.walk.Goals as goal

pub loop-byte-init : goal.loop-byte-init
loop-byte-init c = (omega arith, omega arith, refl)

pub loop-byte-preserved : goal.loop-byte-preserved
loop-byte-preserved c =
    let x = c.loop-byte in
    let a = c.args in (
      omega arith,
      omega arith,
      x.invariant.2 ∙ walk_more a.next.now a.text.now x.byte-index x.number (omega arith),
    )

pub returns : goal.returns
returns c =
    let x = c.loop-byte in
    let a = c.args in
    sym (x.invariant.2 ∙ walk_done a.next.now a.text.now x.byte-index x.number c.loop-byte-test.false)

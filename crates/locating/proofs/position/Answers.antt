-- `position` meets its contract: what is passed and what is left to pass make the whole. Assumes
-- nothing.
use mathlib.Core.Path.{◌≡◌, sym, ap, ◌∙◌}
use Prim.Native.Nat.{ℕ, ◌+◌}
use native.Mathlib.Omega.{arith}
use lib.ListN.{length, drop}
use Rattle.locating.specs.Positions.{position_of}
use Rattle.locating.proofs.Positions.{found_here, at-end, past_mark, past_byte}
use Rattle.locating.proofs.position.Goals.{else-byte, then-byte}
use Rattle.locating.proofs.position.Goals as goal

pub loop-i-init : goal.loop-i-init
loop-i-init c = omega arith

pub returns-then-left-eq0 : goal.returns-then-left-eq0
returns-then-left-eq0 c = let x = c.loop-i in sym (found_here _ x.left x.i c.if-left-eq0.true) ∙ x.invariant

pub loop-i-preserved : goal.loop-i-preserved
loop-i-preserved c =
    let some = c.if-left-eq0.false in
    let x = c.loop-i in
    let w = c.args.chunk.now in
    let l = c.loop-i-test.true in
    let left : ℕ → ℕ = λ z. x.i + 1 + position_of (drop (x.i + 1) w) z in
    (elim c.if-byte.branch [
      | then-byte y ↦ ap left y.left-is ∙ sym (past_byte w x.left x.i some l y.if-byte.true) ∙ x.invariant
      | else-byte y ↦ ap left y.left-is ∙ sym (past_mark w x.left x.i some l y.if-byte.false) ∙ x.invariant
    ])

pub returns : goal.returns
returns c =
    let x = c.loop-i in
    let e : length c.args.chunk.now ≡ x.i = omega arith in
    e ∙ sym (at-end _ x.left x.i c.loop-i-test.false) ∙ x.invariant

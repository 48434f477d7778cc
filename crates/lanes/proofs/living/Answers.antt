-- `living` meets its contract. The lanes passed are empty. Assumes nothing.
use native.Mathlib.Omega.{arith}
use borrow.Author.Count.{below_more}
use Rattle.lanes.proofs.living.Goals as goal

pub loop-k-init : goal.loop-k-init
loop-k-init c = λ b h l. absurd (omega arith)

pub returns-then-lane-k-lt-EMPTY_ROW : goal.returns-then-lane-k-lt-EMPTY_ROW
returns-then-lane-k-lt-EMPTY_ROW c =
    let l = c.loop-k in
    record { most = omega arith; later = omega arith; lives = λ z. c.if-lane-k-lt-EMPTY_ROW.true; none = λ e k a b. absurd (omega arith) }

pub loop-k-preserved : goal.loop-k-preserved
loop-k-preserved c = below_more _ _ c.loop-k.invariant (λ z. c.if-lane-k-lt-EMPTY_ROW.false)

pub returns : goal.returns
returns c =
    let l = c.loop-k in
    record { most = omega arith; later = omega arith; lives = λ z. absurd (omega arith); none = λ e k a b. l.invariant k (omega arith) a }

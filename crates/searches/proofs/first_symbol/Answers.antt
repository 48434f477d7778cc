-- `first_symbol` meets its contract. The invariant: by no symbol passed does the set lead there.
-- Assumes nothing.
use mathlib.Core.Path.{◌≡◌}
use native.Mathlib.Omega.{arith}
use borrow.Author.Count.{below_more}
use Rattle.searches.proofs.first_symbol.Goals as goal

pub loop-s-init : goal.loop-s-init
loop-s-init c = (omega arith, λ t b. absurd (omega arith))

pub returns-then-next-row : goal.returns-then-next-row
returns-then-next-row c = let x = c.loop-s in record { most = x.invariant.0; leads = λ b. c.if-next-row.true; before = x.invariant.1 }

pub loop-s-preserved : goal.loop-s-preserved
loop-s-preserved c = (omega arith, below_more _ _ c.loop-s.invariant.1 c.if-next-row.false)

pub returns : goal.returns
returns c =
    let x = c.loop-s in
    let e : x.s ≡ c.args.k = omega arith in
    record { most = omega arith; leads = λ b. absurd (omega arith); before = rw e at x.invariant.1 }

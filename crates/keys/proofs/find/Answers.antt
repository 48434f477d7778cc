-- `find` meets its contract. Whole blocks without the key are passed first. The loop's invariant:
-- the key stands at none of the places passed. So the place where it is found is the first, and
-- where all are passed it has no number. Assumes nothing.
use native.Mathlib.Omega.{arith}
use borrow.Author.Count.{below_more}
use borrow.Author.Rules.{rules}
use Rattle.numbering.proofs.Arrays.{found_at, found_none}
use Rattle.keys.proofs.find.Goals as goal

pub passed-i-requires : goal.passed-i-requires
passed-i-requires c = search (rules, arith)

pub loop-i-init : goal.loop-i-init
loop-i-init c = c.passed-i.ensures

pub returns-then-i-most : goal.returns-then-i-most
returns-then-i-most c =
    let a = c.args in
    let m = c.min-most in
    found_none a.keys.now a.count a.key m.result (omega arith) (rw c.if-i-most.true at c.loop-i.invariant.1)

pub loop-i-preserved : goal.loop-i-preserved
loop-i-preserved c = (omega arith, below_more _ _ c.loop-i.invariant.1 c.if-cells-i.false)

pub returns : goal.returns
returns c =
    let x = c.loop-i in
    let a = c.args in
    let m = c.min-most in
    found_at a.keys.now a.count a.key m.result (omega arith) x.i (omega arith) c.if-cells-i.true x.invariant.1

-- `follow` meets its contract: a cell is read as the empty set from 512 on. Assumes nothing.
use mathlib.Core.Path.{sym}
use native.Mathlib.Omega.{arith}
use Rattle.delegates.proofs.Classes.{follow_set, follow_empty}
use Rattle.delegates.proofs.follow.Goals as goal

pub returns-then-s-ge-SETS : goal.returns-then-s-ge-SETS
returns-then-s-ge-SETS c = let a = c.args in sym (follow_empty a.next.now a.set.0 a.symbol c.if-s-ge-SETS.true)

pub returns-then-to-lt-EMPTY : goal.returns-then-to-lt-EMPTY
returns-then-to-lt-EMPTY c =
    let a = c.args in
    omega (arith, follow_set a.next.now a.set.0 a.symbol c.if-s-ge-SETS.false)

pub returns-else-to-lt-EMPTY : goal.returns-else-to-lt-EMPTY
returns-else-to-lt-EMPTY c =
    let a = c.args in
    omega (arith, follow_set a.next.now a.set.0 a.symbol c.if-s-ge-SETS.false)

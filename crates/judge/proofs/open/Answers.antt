-- `open` meets its contract. Assumes nothing.
use Rattle.calls.proofs.Ways.{open_20, open_few, open_many, opened}
use native.Mathlib.Omega.{arith}
use borrow.Author.Rules.{rules}
use Rattle.judge.proofs.open.Goals as goal

pub returns-then-built-eq0 : goal.returns-then-built-eq0
returns-then-built-eq0 c = search (rules, open_20)

pub returns-then-places-lt1 : goal.returns-then-places-lt1
returns-then-places-lt1 c = search (rules, open_few)

pub returns-then-places-gt-PLACES : goal.returns-then-places-gt-PLACES
returns-then-places-gt-PLACES c =
    let n = c.args.places in
    open_many _ n _ c.if-built-eq0.false (omega arith) (omega arith) c.refuse_call-then-places-gt-PLACES.ensures

pub returns : goal.returns
returns c = search (rules, opened)

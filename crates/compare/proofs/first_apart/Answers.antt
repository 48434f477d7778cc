-- `first_apart` meets its contract. The invariant: no pair passed tells the two apart. Assumes
-- nothing.
use mathlib.Core.Path.{◌≡◌, sym, ◌∙◌}
use native.Mathlib.Omega.{arith}
use borrow.Author.Count.{below_more}
use Rattle.compare.specs.Search.{differs}
use Rattle.searches.proofs.Cells.{where_found, where_none}
use Rattle.compare.proofs.first_apart.Goals as goal

pub loop-i-init : goal.loop-i-init
loop-i-init c = (omega arith, λ j b. absurd (omega arith))

pub returns-then-differs : goal.returns-then-differs
returns-then-differs c =
    let x = c.loop-i in
    let a = c.args in
    where_found (differs a.finals a.others) a.pairs.now a.count x.i (omega arith) x.invariant.1 (omega arith) (sym c.differs.ensures ∙ c.if-differs.true)

pub loop-i-preserved : goal.loop-i-preserved
loop-i-preserved c = (omega arith, below_more _ _ c.loop-i.invariant.1 (sym c.differs.ensures ∙ c.if-differs.false))

pub returns : goal.returns
returns c =
    let x = c.loop-i in
    let a = c.args in
    let e : x.i ≡ a.count = omega arith in
    sym e ∙ where_none (differs a.finals a.others) a.pairs.now a.count x.i (omega arith) x.invariant.1 (omega arith) (omega arith)

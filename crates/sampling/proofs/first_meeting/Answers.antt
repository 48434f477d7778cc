-- `first_meeting` meets its contract. The invariant: no set passed meets the wish. Assumes
-- nothing.
use mathlib.Core.Path.{◌≡◌, sym, ◌∙◌}
use native.Mathlib.Omega.{arith}
use borrow.Author.Count.{below_more}
use Rattle.samples.specs.Search.{meets}
use Rattle.searches.proofs.Cells.{where_found, where_none}
use Rattle.sampling.proofs.first_meeting.Goals as goal

pub loop-i-init : goal.loop-i-init
loop-i-init c = (omega arith, λ j b. absurd (omega arith))

pub returns-then-meets : goal.returns-then-meets
returns-then-meets c =
    let x = c.loop-i in
    let a = c.args in
    where_found (meets a.finals a.wish) a.sets.now a.count x.i (omega arith) x.invariant.1 (omega arith) (sym c.meets.ensures ∙ c.if-meets.true)

pub loop-i-preserved : goal.loop-i-preserved
loop-i-preserved c = (omega arith, below_more _ _ c.loop-i.invariant.1 (sym c.meets.ensures ∙ c.if-meets.false))

pub returns : goal.returns
returns c =
    let x = c.loop-i in
    let a = c.args in
    let e : x.i ≡ a.count = omega arith in
    sym e ∙ where_none (meets a.finals a.wish) a.sets.now a.count x.i (omega arith) x.invariant.1 (omega arith) (omega arith)

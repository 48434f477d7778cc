-- `has_delegate` meets its contract. Assumes nothing.
use mathlib.Core.Path.{refl, sym, ◌∙◌}
use lib.Dec.{eqb}
use lib.ListN.{get_or}
use Rattle.masks.specs.Masks.{has}
use Rattle.reduce.proofs.Ways.{has_yes, has_no}
use Rattle.reduce.proofs.has_delegate.Goals as goal

pub returns-then-member : goal.returns-then-member
returns-then-member c =
    let a = c.args in
    has_yes (has a.reached a.p.0) (eqb (get_or a.delegates.now a.p.0 0) a.d) _
    (sym c.member.ensures ∙ c.if-member.true)
    refl

pub returns : goal.returns
returns c =
    let a = c.args in
    has_no (has a.reached a.p.0) (eqb (get_or a.delegates.now a.p.0 0) a.d)
    (sym c.member.ensures ∙ c.if-member.false)

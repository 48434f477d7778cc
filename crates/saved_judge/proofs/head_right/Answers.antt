-- `head_right` meets its contract. Assumes nothing.
use Rattle.std.proofs.Common.{sym, ◌∙◌}
use Rattle.saved_judge.proofs.Ways.{wrong_0, wrong_1, wrong_2, wrong_3, head_is}
use Rattle.saved_judge.proofs.head_right.Goals as goal

pub returns-then-get_little-ne66 : goal.returns-then-get_little-ne66
returns-then-get_little-ne66 c = wrong_0 _ _ c.get_little.ensures.0 c.if-get_little-ne66.true

pub returns-then-get_little-ne66-2 : goal.returns-then-get_little-ne66-2
returns-then-get_little-ne66-2 c =
    wrong_1 _ _ (sym c.get_little.ensures.0 ∙ c.if-get_little-ne66.false) c.get_little-2.ensures.0 c.if-get_little-ne66-2.true

pub returns-then-get_little-ne74 : goal.returns-then-get_little-ne74
returns-then-get_little-ne74 c =
    wrong_2 _ _ (sym c.get_little.ensures.0 ∙ c.if-get_little-ne66.false) (sym c.get_little-2.ensures.0 ∙ c.if-get_little-ne66-2.false)
    c.get_little-3.ensures.0 c.if-get_little-ne74.true

pub returns-then-get_little-ne-VERSION : goal.returns-then-get_little-ne-VERSION
returns-then-get_little-ne-VERSION c =
    wrong_3 _ _ (sym c.get_little.ensures.0 ∙ c.if-get_little-ne66.false) (sym c.get_little-2.ensures.0 ∙ c.if-get_little-ne66-2.false)
    (sym c.get_little-3.ensures.0 ∙ c.if-get_little-ne74.false) c.get_little-4.ensures.0 c.if-get_little-ne-VERSION.true

pub returns : goal.returns
returns c =
    head_is _ _ (sym c.get_little.ensures.0 ∙ c.if-get_little-ne66.false) (sym c.get_little-2.ensures.0 ∙ c.if-get_little-ne66-2.false)
    (sym c.get_little-3.ensures.0 ∙ c.if-get_little-ne74.false) (sym c.get_little-4.ensures.0 ∙ c.if-get_little-ne-VERSION.false)
    c.get_little-5.ensures.0

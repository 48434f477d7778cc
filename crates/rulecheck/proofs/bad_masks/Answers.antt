-- `bad_masks` meets its contract. Assumes nothing.
use mathlib.Core.Logic.{inl}
use mathlib.Core.Path.{sym, ◌∙◌}
use Rattle.base.proofs.Tests.{or_either}
use Rattle.rulecheck.specs.Checking.{beyond}
use Rattle.rulecheck.proofs.bad_masks.Goals as goal

pub returns-then-beyond : goal.returns-then-beyond
returns-then-beyond c =
    let a = c.args in
    sym (or_either (beyond a.n a.initials) (beyond a.n a.finals)
    (inl (sym c.beyond.ensures ∙ c.if-beyond.true)))

pub returns : goal.returns
returns c =
    rw (sym c.beyond.ensures ∙ c.if-beyond.false) c.beyond-2.ensures

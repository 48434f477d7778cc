-- `open` meets its contract. Assumes nothing.
use mathlib.Core.Path.{sym, ◌∙◌}
use Rattle.base.proofs.Conditions.{outside_law}
use Rattle.trays.proofs.Ways.{open_20, open_38, open_10, opened}
use borrow.Author.Rules.{rules}
use Rattle.traycalls.proofs.open.Goals as goal

pub returns-then-lacks_rule : goal.returns-then-lacks_rule
returns-then-lacks_rule c = search (rules, open_20)

pub returns-then-outside : goal.returns-then-outside
returns-then-outside c = search (rules, open_38)

pub returns-then-outside-2 : goal.returns-then-outside-2
returns-then-outside-2 c = search (rules, open_10)

pub overflow_cast-width : goal.overflow_cast-width
overflow_cast-width c =
    let within = (outside_law 1 16 c.args.width).0
    (sym c.outside.ensures ∙ c.if-outside.false) in
    search rules

pub overflow_cast-bands : goal.overflow_cast-bands
overflow_cast-bands c =
    let within = (outside_law 1 8 c.args.bands).0
    (sym c.outside-2.ensures ∙ c.if-outside-2.false) in
    search rules

pub returns : goal.returns
returns c = search (rules, opened)

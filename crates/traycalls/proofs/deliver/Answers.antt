-- `deliver` meets its contract: each way out has its lemma, and `search` finds the tests that lead
-- there. Assumes nothing.
use mathlib.Core.Path.{sym, ◌∙◌}
use Rattle.trays.proofs.Ways.{deliver_21, deliver_11, deliver_39}
use borrow.Author.Rules.{rules}
use Rattle.traycalls.proofs.deliver.Goals as goal

pub returns-then-board-eq0 : goal.returns-then-board-eq0
returns-then-board-eq0 c = search (rules, deliver_21)

pub returns-then-bands_of-band : goal.returns-then-bands_of-band
returns-then-bands_of-band c = search (rules, deliver_11)

pub returns-then-not_rows : goal.returns-then-not_rows
returns-then-not_rows c = search (rules, deliver_39)

pub deliver_rows-requires : goal.deliver_rows-requires
deliver_rows-requires c = (
  c.if-board-eq0.false,
  rw (← c.bands_of.ensures) c.if-bands_of-band.false,
  sym c.not_rows.ensures ∙ c.if-not_rows.false,
)

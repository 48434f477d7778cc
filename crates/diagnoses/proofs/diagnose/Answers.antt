-- `diagnose` meets its contract. Assumes nothing.
use borrow.Author.Rules.{rules}
use Rattle.diagnoses.proofs.Finding.{diagnosed_21, diagnosed}
use Rattle.diagnoses.proofs.diagnose.Goals as goal

pub returns-then-board-eq0 : goal.returns-then-board-eq0
returns-then-board-eq0 c = search (rules, diagnosed_21)

pub returns : goal.returns
returns c =
    diagnosed c.args.judge _ c.if-board-eq0.false c.places_of-places.result c.places_of-places.ensures c.find_loss.ensures

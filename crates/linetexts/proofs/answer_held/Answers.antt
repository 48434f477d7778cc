-- `answer_held` meets its contract. Assumes nothing.
use Rattle.linetexts.proofs.Alone.{line_put, stray_put}
use borrow.Author.Rules.{rules}
use Rattle.linetexts.proofs.answer_held.Goals as goal

pub returns-then-seen : goal.returns-then-seen
returns-then-seen g c = search (rules, line_put)

pub returns : goal.returns
returns g c = search (rules, stray_put)

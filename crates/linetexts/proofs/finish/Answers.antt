-- `finish` meets its contract. Assumes nothing.
use Rattle.linetexts.specs.Alone.{answer_teller}
use Rattle.linetexts.proofs.Ends.{none_written, last_written}
use borrow.Author.Rules.{rules}
use Rattle.linetexts.proofs.finish.Goals as goal

pub returns-then-held-eq0 : goal.returns-then-held-eq0
returns-then-held-eq0 g c = let a = g.A.AnswersLines in search (rules, none_written (answer_teller a.answer a.overlong a.longest a.ROOM))

pub returns : goal.returns
returns g c = let a = g.A.AnswersLines in search (rules, last_written (answer_teller a.answer a.overlong a.longest a.ROOM))

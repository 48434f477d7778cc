-- `changes` meets its contract. Assumes nothing.
use Rattle.maplines.proofs.Ways.{changed, by_word}
use borrow.Author.Rules.{rules}
use Rattle.maplines.proofs.changes.Goals as goal

pub returns-then-line-eq0 : goal.returns-then-line-eq0
returns-then-line-eq0 c = search (rules, changed)

pub returns : goal.returns
returns c = search (rules, by_word)

-- `keep` meets its contract. Assumes nothing.
use Rattle.formmaker.proofs.Turns.{keep_first, keep_other}
use borrow.Author.Rules.{rules}
use Rattle.formmaker.proofs.keep.Goals as goal

pub returns-then-t-eq0 : goal.returns-then-t-eq0
returns-then-t-eq0 c = search (rules, keep_first)

pub returns : goal.returns
returns c = search (rules, keep_other)

-- `finish` meets its contract. Assumes nothing.
use Rattle.linetexts.proofs.Ends.{none_finished, last_finished}
use Rattle.mergestream.specs.Texts.{merge_lines}
use borrow.Author.Rules.{rules}
use Rattle.mergestream.proofs.finish.Goals as goal

pub returns-then-is_start : goal.returns-then-is_start
returns-then-is_start c = search (rules, none_finished merge_lines tt)

pub returns : goal.returns
returns c = search (rules, last_finished merge_lines tt)

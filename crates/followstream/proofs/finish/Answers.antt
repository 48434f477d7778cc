-- `finish` meets its contract. Assumes nothing.
use Rattle.linetexts.proofs.Ends.{none_written, last_written}
use Rattle.linetexts.specs.Lists.{list_teller}
use Rattle.followstream.specs.Texts.{follow_list}
use borrow.Author.Rules.{rules}
use Rattle.followstream.proofs.finish.Goals as goal

pub returns-then-held-eq0 : goal.returns-then-held-eq0
returns-then-held-eq0 c = search (rules, none_written (list_teller follow_list))

pub returns : goal.returns
returns c = search (rules, last_written (list_teller follow_list))

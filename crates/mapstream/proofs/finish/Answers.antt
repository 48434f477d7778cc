-- `finish` meets its contract. Assumes nothing.
use Rattle.linetexts.proofs.Ends.{none_written, last_written}
use Rattle.linetexts.specs.Lists.{list_teller}
use Rattle.mapstream.specs.Texts.{map_list}
use borrow.Author.Rules.{rules}
use Rattle.mapstream.proofs.finish.Goals as goal

pub returns-then-held-eq0 : goal.returns-then-held-eq0
returns-then-held-eq0 c = search (rules, none_written (list_teller map_list))

pub returns : goal.returns
returns c = search (rules, last_written (list_teller map_list))

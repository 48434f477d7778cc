-- `finish` meets its contract. Assumes nothing.
use Rattle.linetexts.proofs.Ends.{none_written, last_written}
use Rattle.maketextstream.specs.Texts.{text_teller}
use borrow.Author.Rules.{rules}
use Rattle.maketextstream.proofs.finish.Goals as goal

pub returns-then-held-eq0 : goal.returns-then-held-eq0
returns-then-held-eq0 c = search (rules, none_written text_teller)

pub returns : goal.returns
returns c = search (rules, last_written text_teller)

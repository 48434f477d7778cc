-- `skips` meets its contract. Assumes nothing.
use Rattle.linetexts.proofs.Lists.{skips_not, skips_some, skips_stray}
use borrow.Author.Rules.{rules}
use Rattle.linetexts.proofs.skips.Goals as goal

pub returns-then-not-ended : goal.returns-then-not-ended
returns-then-not-ended c = search (rules, skips_not)

pub returns-then-seen : goal.returns-then-seen
returns-then-seen c = search (rules, skips_some)

pub returns : goal.returns
returns c = search (rules, skips_stray)

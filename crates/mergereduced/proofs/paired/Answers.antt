-- `paired` meets its contract. Assumes nothing.
use Rattle.mergereduced.proofs.Ways.{sized, paired_low, few_there, paired_many, paired_made}
use borrow.Author.Rules.{rules}
use Rattle.mergereduced.proofs.paired.Goals as goal

pub count-c-requires : goal.count-c-requires
count-c-requires c = search (rules, sized, paired_low)

pub returns-then-c-gt-STATES : goal.returns-then-c-gt-STATES
returns-then-c-gt-STATES c = search (rules, paired_many)

pub trimmed-made-requires : goal.trimmed-made-requires
trimmed-made-requires c = search (rules, sized, few_there)

pub returns : goal.returns
returns c = search (rules, paired_made)

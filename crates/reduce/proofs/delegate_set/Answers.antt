-- `delegate_set` meets its contract. Assumes nothing.
use borrow.Author.Rules.{rules}
use Rattle.reduce.proofs.Ways.{low_delegate, set_some, set_none}
use Rattle.reduce.proofs.delegate_set.Goals as goal

pub singleton-requires : goal.singleton-requires
singleton-requires c = search (rules, low_delegate)

pub returns-in-State : goal.returns-in-State
returns-in-State c = search (rules, set_some)

pub returns-in-None : goal.returns-in-None
returns-in-None c = search (rules, set_none)

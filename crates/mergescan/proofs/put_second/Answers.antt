-- `put_second` meets its contract. Assumes nothing.
use borrow.Author.Rules.{rules}
use Rattle.mergescan.proofs.Kept.{prefix, second_malformed, second_put}
use Rattle.mergescan.proofs.put_second.Goals as goal

pub slice_bounds-put_pair-end : goal.slice_bounds-put_pair-end
slice_bounds-put_pair-end c = search (rules, prefix)

pub slice_bounds-put_pair-end-in-Some : goal.slice_bounds-put_pair-end-in-Some
slice_bounds-put_pair-end-in-Some c = search (rules, prefix)

pub returns-in-Some : goal.returns-in-Some
returns-in-Some c = search (rules, second_put)

pub returns-in-None : goal.returns-in-None
returns-in-None c = search (rules, second_malformed)

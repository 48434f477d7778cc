-- `put_first` meets its contract. Assumes nothing.
use Rattle.mergescan.proofs.Kept.{prefix, first_put, first_malformed}
use borrow.Author.Rules.{rules}
use Rattle.mergescan.proofs.put_first.Goals as goal

pub slice_bounds-put_alone-end : goal.slice_bounds-put_alone-end
slice_bounds-put_alone-end c = search (rules, prefix)

pub returns-in-Some : goal.returns-in-Some
returns-in-Some c = search (rules, first_put)

pub returns-in-None : goal.returns-in-None
returns-in-None c = search (rules, first_malformed)

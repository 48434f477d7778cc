-- `look` meets its contract. Assumes nothing.
use Rattle.longlines.proofs.Standing.{stands_within, stands_inside, stands_prefix, seen-is}
use borrow.Author.Rules.{rules}
use Rattle.longlines.proofs.look.Goals as goal

pub slice_bounds-hex_with-count : goal.slice_bounds-hex_with-count
slice_bounds-hex_with-count c = search (rules, stands_within)

pub returns : goal.returns
returns c = search (rules, stands_inside, stands_prefix, seen-is)

-- `begin` meets its contract. Assumes nothing.
use Rattle.mergescan.proofs.Kept.{begin_both, begin_either, begin_interleaving, begin_compare, begin_reduce, begin_stray}
use borrow.Author.Rules.{rules}
use Rattle.mergescan.proofs.begin.Goals as goal

pub returns-then-c-eq98 : goal.returns-then-c-eq98
returns-then-c-eq98 c = search (rules, begin_both)

pub returns-then-c-eq101 : goal.returns-then-c-eq101
returns-then-c-eq101 c = search (rules, begin_either)

pub returns-then-c-eq105 : goal.returns-then-c-eq105
returns-then-c-eq105 c = search (rules, begin_interleaving)

pub returns-then-c-eq99 : goal.returns-then-c-eq99
returns-then-c-eq99 c = search (rules, begin_compare)

pub returns-then-c-eq114 : goal.returns-then-c-eq114
returns-then-c-eq114 c = search (rules, begin_reduce)

pub returns : goal.returns
returns c = search (rules, begin_stray)

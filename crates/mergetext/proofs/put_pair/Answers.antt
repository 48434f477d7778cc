-- `put_pair` meets its contract. Assumes nothing.
use borrow.Author.Rules.{rules}
use Rattle.mergetext.proofs.Others.{by_pair}
use Rattle.mergetext.proofs.put_pair.Goals as goal

pub returns-in-Merge : goal.returns-in-Merge
returns-in-Merge c =
    let a = c.args in
    by_pair a.out.now c.put_made.new.out a.at c.put_made.result a.one.now a.two.now a.verb _ c.in-Merge.is
    (rw (← c.merge_files.ensures.answered) c.put_made.ensures)

pub returns-in-Compare : goal.returns-in-Compare
returns-in-Compare c =
    let a = c.args in
    by_pair a.out.now c.put_comparison.new.out a.at c.put_comparison.result a.one.now a.two.now a.verb _ c.in-Compare.is
    (rw (← c.compare_files.ensures) c.put_comparison.ensures)

pub returns-in-Reduce : goal.returns-in-Reduce
returns-in-Reduce c = search (rules, by_pair)

-- `put_alone` meets its contract. Assumes nothing.
use borrow.Author.Rules.{rules}
use Rattle.mergetext.proofs.Others.{by_alone}
use Rattle.mergetext.proofs.put_alone.Goals as goal

pub returns-in-Merge : goal.returns-in-Merge
returns-in-Merge c = search (rules, by_alone)

pub returns-in-Compare : goal.returns-in-Compare
returns-in-Compare c = search (rules, by_alone)

pub returns-in-Reduce : goal.returns-in-Reduce
returns-in-Reduce c =
    let a = c.args in
    by_alone a.out.now c.put_made.new.out a.at c.put_made.result a.file.now a.verb _ c.in-Reduce.is
    (rw (← c.reduce_file.ensures.answered) c.put_made.ensures)

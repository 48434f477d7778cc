-- `next` meets its contract. Assumes nothing.
use Rattle.followcalls.proofs.Ways.{next_lacks, next_refused, next_taken}
use borrow.Author.Rules.{rules}
use Rattle.followcalls.proofs.next.Goals as goal

pub returns-then-follower-eq0 : goal.returns-then-follower-eq0
returns-then-follower-eq0 c = search (rules, next_lacks)

pub returns-in-Err : goal.returns-in-Err
returns-in-Err c = search (rules, next_refused)

pub returns-in-Ok : goal.returns-in-Ok
returns-in-Ok c = search (rules, next_taken)

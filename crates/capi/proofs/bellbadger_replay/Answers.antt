-- `bellbadger_replay` meets its contract. Assumes nothing.
use borrow.Author.Rules.{rules}
use Rattle.capi.proofs.Numbers.{replay_verdict, replay_malformed}
use Rattle.capi.proofs.bellbadger_replay.Goals as goal

pub returns-in-Ok : goal.returns-in-Ok
returns-in-Ok c = search (rules, replay_verdict)

pub returns-in-Err : goal.returns-in-Err
returns-in-Err c = search (rules, replay_malformed)

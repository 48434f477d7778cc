-- `begin` meets its contract. Assumes nothing.
use Rattle.followcalls.proofs.Ways.{begin_refused, begin_taken}
use Rattle.followcalls.proofs.begin.Goals as goal

pub returns-in-Err : goal.returns-in-Err
returns-in-Err c = begin_refused c.args.state c.args.file.now c.in-Err.refusal c.in-Err.ensures

pub returns-in-Ok : goal.returns-in-Ok
returns-in-Ok c = begin_taken c.args.state c.args.file.now _ c.in-Ok.ensures

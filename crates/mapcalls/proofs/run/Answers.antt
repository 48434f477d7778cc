-- `run` meets its contract. Assumes nothing.
use Rattle.mapcalls.proofs.Ways.{run_lacks, ran_reply_lem}
use Rattle.mapcalls.proofs.run.Goals as goal

pub returns-in_default : goal.returns-in_default
returns-in_default c = run_lacks c.args.state.now c.args.chunk.now (cc)

pub returns-in-Ok : goal.returns-in-Ok
returns-in-Ok c = ran_reply_lem c.args.state.now c.args.chunk.now c.in-Some.profile c.in-Some.is _ c.in-Ok.ensures

pub returns-in-Err : goal.returns-in-Err
returns-in-Err c = ran_reply_lem c.args.state.now c.args.chunk.now c.in-Some.profile c.in-Some.is _ c.in-Err.ensures

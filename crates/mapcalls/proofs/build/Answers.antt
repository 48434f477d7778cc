-- `build` meets its contract. Assumes nothing.
use Rattle.mapcalls.proofs.Ways.{built_reply_lem, built_state, kept_reply, kept_state}
use Rattle.mapcalls.proofs.build.Goals as goal

pub returns-in-Ok : goal.returns-in-Ok
returns-in-Ok c =
    let s = c.args.state in
    let f = c.args.file.now in
    (built_reply_lem s f c.in-Ok.profile c.in-Ok.ensures, built_state s f c.in-Ok.profile c.in-Ok.ensures)

pub returns-in-Err : goal.returns-in-Err
returns-in-Err c =
    let s = c.args.state in
    let f = c.args.file.now in
    (kept_reply s f c.in-Err.refusal c.in-Err.ensures, kept_state s f c.in-Err.refusal c.in-Err.ensures)

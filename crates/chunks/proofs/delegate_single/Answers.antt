-- `delegate_single` meets its contract. Assumes nothing.
use Rattle.delegates.proofs.Answer.{told_state, told_none}
use Rattle.chunks.proofs.delegate_single.Goals as goal

pub returns-in_default : goal.returns-in_default
returns-in_default c =
    let d = c.delegate_at in
    let a = c.args in
    rw (told_none a.delegates.now a.q.0 d.result d.ensures c.in_default.is)

pub singleton-requires : goal.singleton-requires
singleton-requires c =
    let d = c.delegate_at in
    let a = c.args in
    (told_state a.delegates.now a.q.0 d.result d.ensures c.in-State.delegate c.in-State.is).1

pub returns : goal.returns
returns c =
    let d = c.delegate_at in
    let a = c.args in
    rw (told_state a.delegates.now a.q.0 d.result d.ensures c.in-State.delegate c.in-State.is).0 c.singleton.ensures

-- `delegate_at` meets its contract. Assumes nothing.
use mathlib.Core.Path.{sym}
use Rattle.delegates.proofs.Alike.{said_some, said_none}
use Rattle.delegates.proofs.delegate_at.Goals as goal

pub returns-then-delegate-lt-NO_DELEGATE : goal.returns-then-delegate-lt-NO_DELEGATE
returns-then-delegate-lt-NO_DELEGATE c =
    let a = c.args in
    sym (said_some a.delegates.now a.q.0 c.if-delegate-lt-NO_DELEGATE.true)

pub returns-else-delegate-lt-NO_DELEGATE : goal.returns-else-delegate-lt-NO_DELEGATE
returns-else-delegate-lt-NO_DELEGATE c =
    let a = c.args in
    sym (said_none a.delegates.now a.q.0 c.if-delegate-lt-NO_DELEGATE.false)

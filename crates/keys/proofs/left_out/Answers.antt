-- `left_out` meets its contract. Assumes nothing.
use Rattle.keys.proofs.left_out.Goals as goal

pub returns-then-omit : goal.returns-then-omit
returns-then-omit c = rw c.if-omit.true

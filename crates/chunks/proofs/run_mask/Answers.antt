-- `run_mask` meets its contract. Assumes nothing.
use mathlib.Core.Path.{◌∙◌}
use Rattle.chunks.proofs.Starts.{run_first, run_later}
use Rattle.chunks.proofs.run_mask.Goals as goal

pub returns-then-place-eq0 : goal.returns-then-place-eq0
returns-then-place-eq0 c =
    let a = c.args in
    c.delegate_mask.ensures ∙ run_first a.delegates a.n a.initials a.place c.if-place-eq0.true

pub returns-else-place-eq0 : goal.returns-else-place-eq0
returns-else-place-eq0 c =
    let a = c.args in
    c.start_mask.ensures ∙ run_later a.delegates a.n a.initials a.place c.if-place-eq0.false

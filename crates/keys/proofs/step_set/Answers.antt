-- `step_set` meets its contract: the successor looks at the lowest 32 bits alone. Assumes nothing.
use mathlib.Core.Path.{◌∙◌}
use Rattle.keys.proofs.Stepping.{successor_low}
use Rattle.keys.proofs.step_set.Goals as goal

pub returns : goal.returns
returns c =
    let a = c.args in
    c.successor.ensures ∙ successor_low a.targets.now a.key a.symbol

-- `run_open` meets its contract. Assumes nothing.
use mathlib.Core.Path.{ap}
use Rattle.callrun.specs.Running.{reply_of}
use Rattle.callrun.proofs.run_open.Goals as goal

pub returns : goal.returns
returns c = ap reply_of c.open-opening.ensures

-- `with_number` meets its contract. Assumes nothing.
use Rattle.std.proofs.Common.{rules}
use Rattle.digests.proofs.Laws.{step_halves}
use Rattle.digests.proofs.with_number.Goals as goal

pub returns : goal.returns
returns c = search (rules, step_halves)

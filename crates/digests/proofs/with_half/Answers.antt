-- `with_half` meets its contract. Assumes nothing.
use Rattle.std.proofs.Common.{rules}
use Rattle.digests.proofs.Laws.{step_sums}
use Rattle.digests.proofs.with_half.Goals as goal

pub returns : goal.returns
returns c = search (rules, step_sums)

-- `with_byte` meets its contract. Assumes nothing.
use Rattle.std.proofs.Common.{rules}
use Rattle.saved_judge.proofs.Sums.{step_sum}
use Rattle.saved_judge.proofs.with_byte.Goals as goal

pub returns : goal.returns
returns c = step_sum _ _ _ _ (search rules) c.mix.ensures

-- `mix` meets its contract. Assumes nothing.
use Rattle.std.proofs.Common.{refl, rules}
use Rattle.saved_judge.specs.Digest.{mixed}
use Rattle.saved_judge.proofs.Sums.{square_below, sum_below, mixed_below}
use Rattle.saved_judge.proofs.mix.Goals as goal

pub overflow_mul-result : goal.overflow_mul-result
overflow_mul-result c = search (rules, square_below)

pub overflow_add-result : goal.overflow_add-result
overflow_add-result c = search (rules, sum_below)

pub overflow_add-result-2 : goal.overflow_add-result-2
unfolding mixed
overflow_add-result-2 c = search (rules, mixed_below)

pub returns : goal.returns
unfolding mixed
returns c = refl

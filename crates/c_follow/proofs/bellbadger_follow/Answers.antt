-- `bellbadger_follow` meets its contract. Assumes nothing.
use mathlib.Core.Path.{ap, ◌∙◌}
use Rattle.c_follow.specs.Numbers.{follow_shown}
use Rattle.c_follow.proofs.bellbadger_follow.Goals as goal

pub returns : goal.returns
returns c = c.in_numbers.ensures ∙ ap follow_shown c.follow.ensures

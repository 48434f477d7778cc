-- `bellbadger_follow_by` meets its contract. Assumes nothing.
use mathlib.Core.Path.{ap, ◌∙◌}
use Rattle.c_follow.specs.Numbers.{follow_shown}
use Rattle.c_follow.proofs.bellbadger_follow_by.Goals as goal

pub returns : goal.returns
returns c = c.in_numbers.ensures ∙ ap follow_shown c.follow_by.ensures

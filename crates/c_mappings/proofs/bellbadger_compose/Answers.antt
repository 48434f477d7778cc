-- `bellbadger_compose` meets its contract. Assumes nothing.
use mathlib.Core.Path.{ap}
use Rattle.c_mappings.specs.Numbers.{mapping_shown}
use Rattle.c_mappings.proofs.bellbadger_compose.Goals as goal

pub returns : goal.returns
returns c = ap mapping_shown c.compose.ensures

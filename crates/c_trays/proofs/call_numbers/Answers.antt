-- `call_numbers` meets its contract. Assumes nothing.
use Rattle.c_trays.proofs.Numbers.{call_shown_lem}
use Rattle.c_trays.proofs.call_numbers.Goals as goal

pub returns : goal.returns
returns c = call_shown_lem c.shown-shown.result c.args.res c.shown-shown.ensures.0 c.shown-shown.ensures.1

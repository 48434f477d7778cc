-- `bellbadger_make_text` meets its contract. Assumes nothing.
use Rattle.c_texts.proofs.ReadBack.{makes}
use Rattle.c_texts.proofs.bellbadger_make_text.Goals as goal

pub returns : goal.returns
returns c = makes _ _ _ _ _ _ c.shown-shown.ensures.0 c.shown-shown.ensures.1 c.make_text.ensures

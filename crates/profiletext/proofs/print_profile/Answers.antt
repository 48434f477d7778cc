-- `print_profile` meets its contract. Assumes nothing.
use Rattle.profiletext.proofs.Whole.{built_text_lem, refused_text_lem}
use Rattle.profiletext.proofs.print_profile.Goals as goal

pub returns-in-Ok : goal.returns-in-Ok
returns-in-Ok c = rw (← built_text_lem c.args.file.now _ c.in-Ok.ensures) c.put_profile.ensures

pub returns-in-Err : goal.returns-in-Err
returns-in-Err c = rw (← refused_text_lem c.args.file.now c.in-Err.refusal c.in-Err.ensures, ← c.number.ensures) c.put_refused.ensures

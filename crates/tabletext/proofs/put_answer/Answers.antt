-- `put_answer` meets its contract. Assumes nothing.
use Rattle.formline.specs.Lines.{line_in}
use Rattle.tabletext.proofs.Whole.{says_by, great_by, malformed_by}
use Rattle.tabletext.proofs.put_answer.Goals as goal

pub returns-in_default : goal.returns-in_default
returns-in_default c = rw (← malformed_by _ (line_in c.args.line.now) c.in_default.ensures) c.put_malformed.ensures

pub returns-in-Ok : goal.returns-in-Ok
returns-in-Ok c =
    let said = rw c.in-Ok.is at c.in-Some.ensures in
    rw (← says_by c.in-Ok.form (line_in c.args.line.now) said) c.put_back.ensures

pub returns-in-Err : goal.returns-in-Err
returns-in-Err c =
    let said = rw c.in-Err.is at c.in-Some.ensures in
    rw (← great_by _ (line_in c.args.line.now) said, ← c.number.ensures) c.put_refused.ensures

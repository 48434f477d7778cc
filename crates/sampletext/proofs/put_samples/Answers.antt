-- `put_samples` meets its contract, answer by answer. Assumes nothing.
use Rattle.text.proofs.Rooms.{two}
use Rattle.sampletext.proofs.Lines.{lines_two, lines_refused}
use Rattle.sampletext.proofs.put_samples.Goals as goal

pub returns-in-Ok : goal.returns-in-Ok
returns-in-Ok c =
    let y = c.find_sample-sample in
    rw (← lines_two c.args.rule y.result y.ensures _ c.in-Ok.is)
    (two 1031 1031 c.requires c.put_sample-end.ensures (λ h. c.put_rejected.ensures)).0

pub returns-in-Err : goal.returns-in-Err
returns-in-Err c =
    let y = c.find_sample-sample in
    rw (← lines_refused c.args.rule y.result y.ensures _ c.in-Err.is) c.put_sample-end.ensures.0

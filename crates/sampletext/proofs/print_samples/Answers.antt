-- `print_samples` meets its contract. Assumes nothing.
use Rattle.sampletext.proofs.Lines.{file_read, file_refused}
use Rattle.sampletext.proofs.print_samples.Goals as goal

pub returns-in-Ok : goal.returns-in-Ok
returns-in-Ok c = rw (← file_read c.args.file.now c.read.result c.read.ensures _ c.in-Ok.is) c.put_samples.ensures

pub returns-in-Err : goal.returns-in-Err
returns-in-Err c =
    rw (← file_refused c.args.file.now c.read.result c.read.ensures _ c.in-Err.is, ← c.number.ensures) c.put_refused.ensures

-- `put_sample` meets its contract where the rule is refused. Assumes nothing.
use native.Mathlib.Omega.{arith}
use Rattle.text.proofs.Rooms.{most}
use Rattle.answers.proofs.Lengths.{refused_short}
use Rattle.sampletext.proofs.Lines.{line_refused}
use Rattle.sampletext.proofs.put_sample.Goals as goal

pub returns-in-Err : goal.returns-in-Err
returns-in-Err c =
    rw (← line_refused c.args.word.now c.args.sample c.in-Err.refusal c.in-Err.is, ← c.number.ensures)
    (most 1031 (omega (arith, refused_short c.number.result)) c.put_refused.ensures)

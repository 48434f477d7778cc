-- `put_report` meets its contract. Assumes nothing.
use mathlib.Core.List.{[], ◌∷◌}
use native.Mathlib.Omega.{arith}
use Rattle.answers.specs.Answers.{waiting_word}
use Rattle.answers.proofs.Lengths.{line_short}
use Rattle.calltext.specs.Answers.{yes_word, no_word}
use Rattle.calltext.proofs.put_report.Goals as goal

pub put_line-requires : goal.put_line-requires
put_line-requires c =
    omega (arith, c.requires, line_short waiting_word (c.in-Waiting.empty ∷ []))

pub put_line-requires-in-Yes : goal.put_line-requires-in-Yes
put_line-requires-in-Yes c =
    omega (arith, c.requires, line_short yes_word (c.in-Yes.count ∷ c.args.report.bytes ∷ c.args.report.quotient ∷ c.args.report.remainder ∷ []))

pub put_line-requires-in-No : goal.put_line-requires-in-No
put_line-requires-in-No c =
    omega (arith, c.requires, line_short no_word (c.in-No.count ∷ c.args.report.bytes ∷ c.args.report.quotient ∷ c.args.report.remainder ∷ []))

pub returns-in-Waiting : goal.returns-in-Waiting
returns-in-Waiting c = rw c.in-Waiting.is c.put_line.ensures

pub returns-in-Yes : goal.returns-in-Yes
returns-in-Yes c = rw c.in-Yes.is c.put_line-in-Yes.ensures

pub returns-in-No : goal.returns-in-No
returns-in-No c = rw c.in-No.is c.put_line-in-No.ensures

pub returns-in-Refused : goal.returns-in-Refused
returns-in-Refused c = rw (c.in-Refused.is, ← c.number.ensures) c.put_refused.ensures

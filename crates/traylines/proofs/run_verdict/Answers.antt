-- `run_verdict` meets its contract. Assumes nothing.
use mathlib.Core.Path.{ap}
use Rattle.trays.specs.Replies.{Judgement, judged}
use Rattle.traytext.specs.Answers.{replied}
use Rattle.traylines.proofs.run_verdict.Goals as goal

pub returns : goal.returns
returns c = ap (λ (v : Judgement). record { response = replied (judged v); state = c.args.tray }) c.ask_verdict-said.ensures

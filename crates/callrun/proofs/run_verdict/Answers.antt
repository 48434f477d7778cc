-- `run_verdict` meets its contract. Assumes nothing.
use mathlib.Core.Path.{ap}
use Rattle.calls.specs.Replies.{Reported, judged}
use Rattle.calltext.specs.Answers.{replied}
use Rattle.callrun.proofs.run_verdict.Goals as goal

pub returns : goal.returns
returns c = ap (λ (r : Reported). record { response = replied (judged r); state = c.args.judge }) c.ask_verdict-said.ensures

-- `run_empty` meets its contract. Assumes nothing.
use mathlib.Core.Path.{ap}
use Rattle.calls.specs.declared.Judge.{Judge}
use Rattle.calltext.specs.Answers.{began}
use Rattle.callrun.proofs.run_empty.Goals as goal

pub returns : goal.returns
returns c = ap (λ (j : Judge). record { response = began; state = j }) c.new_judge-judge.ensures

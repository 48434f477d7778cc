-- `ask_verdict` meets its contract. Assumes nothing.
use mathlib.Core.Path.{ap₂, ◌∙◌}
use Rattle.calls.specs.Calls.{report_by}
use Rattle.board.specs.Boards.{summed_bytes}
use Rattle.judge.proofs.ask_verdict.Goals as goal

pub returns : goal.returns
unfolding summed_bytes
returns c = c.report_on.ensures ∙ ap₂ report_by c.find_verdict-verdict.ensures c.summed.ensures

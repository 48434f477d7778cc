-- `run_line` meets its contract. Assumes nothing.
use Rattle.callrun.proofs.Ways.{line_parsed}
use borrow.Author.Rules.{rules}
use Rattle.callrun.proofs.run_line.Goals as goal

pub returns : goal.returns
returns c = search (rules, line_parsed)

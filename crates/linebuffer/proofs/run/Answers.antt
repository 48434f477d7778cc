-- `run` meets its contract. Assumes nothing.
use Rattle.linebuffer.proofs.Standing.{run_state, run_text}
use borrow.Author.Rules.{rules}
use Rattle.linebuffer.proofs.run.Goals as goal

pub returns : goal.returns
returns c = record { ended_value = search (rules, run_state); text = search (rules, run_text); scratch = search rules }

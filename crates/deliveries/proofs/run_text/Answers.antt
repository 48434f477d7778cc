-- `run_text` meets its contract: each way out is a case of `attempt_of`. Assumes nothing.
use borrow.Author.Rules.{rules}
use Rattle.deliveries.proofs.Ways.{foreign_text, late_text, text_run}
use Rattle.deliveries.proofs.run_text.Goals as goal

pub returns-then-has_foreign : goal.returns-then-has_foreign
returns-then-has_foreign c = search (rules, foreign_text)

pub returns-then-late : goal.returns-then-late
returns-then-late c = search (rules, late_text)

pub returns : goal.returns
returns c = search (rules, text_run)

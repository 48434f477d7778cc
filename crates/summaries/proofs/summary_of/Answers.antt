-- `summary_of` meets its contract. Assumes nothing.
use borrow.Author.Rules.{rules}
use Rattle.summaries.proofs.Ways.{same_summary}
use Rattle.summaries.proofs.summary_of.Goals as goal

pub returns : goal.returns
returns c = search (rules, same_summary)

-- `conclude` meets its contract: each way out has its lemma. Assumes nothing.
use borrow.Author.Rules.{rules}
use Rattle.summaries.proofs.Ways.{report_20, report_broken, report_first, report_43, report_none, report_44, report_made}
use Rattle.summaries.proofs.conclude.Goals as goal

pub returns-then-built-eq0 : goal.returns-then-built-eq0
returns-then-built-eq0 c = search (rules, report_20)

pub returns-then-summary-ne0 : goal.returns-then-summary-ne0
returns-then-summary-ne0 c = search (rules, report_broken)

pub returns-then-summary-ne0-2 : goal.returns-then-summary-ne0-2
returns-then-summary-ne0-2 c = search (rules, report_first)

pub returns-then-summary-digest : goal.returns-then-summary-digest
returns-then-summary-digest c = search (rules, report_43)

pub returns-then-chunks-eq0 : goal.returns-then-chunks-eq0
returns-then-chunks-eq0 c = search (rules, report_none)

pub returns-then-summary-chunks : goal.returns-then-summary-chunks
returns-then-summary-chunks c = search (rules, report_44)

pub returns : goal.returns
returns c = search (rules, report_made)

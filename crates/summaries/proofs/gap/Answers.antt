-- `gap` meets its contract: each way out has its lemma. Assumes nothing.
use borrow.Author.Rules.{rules}
use Rattle.summaries.proofs.Ways.{gap_earlier, gap_later, gap_between, gap_rules, no_gap}
use Rattle.summaries.proofs.gap.Goals as goal

pub returns-then-earlier-ne0 : goal.returns-then-earlier-ne0
returns-then-earlier-ne0 c = search (rules, gap_earlier)

pub returns-then-later-ne0 : goal.returns-then-later-ne0
returns-then-later-ne0 c = search (rules, gap_later)

pub returns-then-earlier-later : goal.returns-then-earlier-later
returns-then-earlier-later c = search (rules, gap_between)

pub returns-then-earlier-later-2 : goal.returns-then-earlier-later-2
returns-then-earlier-later-2 c = search (rules, gap_rules)

pub returns : goal.returns
returns c = search (rules, no_gap)

-- `bellbadger_profile_verdict` meets its contract. Assumes nothing.
use borrow.Author.Rules.{rules}
use Rattle.c_mappings.proofs.Numbers.{verdict_yes, verdict_no}
use Rattle.c_mappings.proofs.bellbadger_profile_verdict.Goals as goal

pub returns-then-says_yes : goal.returns-then-says_yes
returns-then-says_yes c = search (rules, verdict_yes)

pub returns-else-says_yes : goal.returns-else-says_yes
returns-else-says_yes c = search (rules, verdict_no)

-- `report_on` meets its contract. Assumes nothing.
use Rattle.calls.proofs.Ways.{report_waiting, report_yes, report_no, report_refused}
use borrow.Author.Rules.{rules}
use Rattle.verdicts.proofs.report_on.Goals as goal

pub returns-in-Waiting : goal.returns-in-Waiting
returns-in-Waiting c = search (rules, report_waiting)

pub returns-in-Yes : goal.returns-in-Yes
returns-in-Yes c = search (rules, report_yes)

pub returns-in-No : goal.returns-in-No
returns-in-No c = search (rules, report_no)

pub returns-in-Refused : goal.returns-in-Refused
returns-in-Refused c = search (rules, report_refused)

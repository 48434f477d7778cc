-- `run_parsed` meets its contract. Assumes nothing.
use Rattle.callrun.proofs.Ways.{load_inside, install_inside, deliver_inside, line_empty, line_load, line_install, line_open, line_deliver, line_withdraw, line_verdict, line_malformed}
use borrow.Author.Rules.{rules}
use Rattle.callrun.proofs.run_parsed.Goals as goal

pub slice_bounds-run_load-count : goal.slice_bounds-run_load-count
slice_bounds-run_load-count c = search (rules, load_inside)

pub slice_bounds-run_load-start : goal.slice_bounds-run_load-start
slice_bounds-run_load-start c = search (rules, load_inside)

pub slice_bounds-run_install-count : goal.slice_bounds-run_install-count
slice_bounds-run_install-count c = search (rules, install_inside)

pub slice_bounds-run_install-start : goal.slice_bounds-run_install-start
slice_bounds-run_install-start c = search (rules, install_inside)

pub slice_bounds-run_deliver-count : goal.slice_bounds-run_deliver-count
slice_bounds-run_deliver-count c = search (rules, deliver_inside)

pub slice_bounds-run_deliver-start : goal.slice_bounds-run_deliver-start
slice_bounds-run_deliver-start c = search (rules, deliver_inside)

pub returns-in-Empty : goal.returns-in-Empty
returns-in-Empty c = search (rules, line_empty)

pub returns-in-Load : goal.returns-in-Load
returns-in-Load c = search (rules, line_load)

pub returns-in-Install : goal.returns-in-Install
returns-in-Install c = search (rules, line_install)

pub returns-in-Open : goal.returns-in-Open
returns-in-Open c = search (rules, line_open)

pub returns-in-Deliver : goal.returns-in-Deliver
returns-in-Deliver c = search (rules, line_deliver)

pub returns-in-Withdraw : goal.returns-in-Withdraw
returns-in-Withdraw c = search (rules, line_withdraw)

pub returns-in-Verdict : goal.returns-in-Verdict
returns-in-Verdict c = search (rules, line_verdict)

pub returns-in-Malformed : goal.returns-in-Malformed
returns-in-Malformed c = search (rules, line_malformed)

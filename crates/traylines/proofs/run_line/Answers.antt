-- `run_line` meets its contract. Assumes nothing.
use Rattle.traylines.proofs.Ways.{row_inside, column_inside, deliver_inside, line_empty, line_row, line_column, line_open, line_deliver, line_withdraw, line_verdict, line_malformed}
use borrow.Author.Rules.{rules}
use Rattle.traylines.proofs.run_line.Goals as goal

pub slice_bounds-run_file-count : goal.slice_bounds-run_file-count
slice_bounds-run_file-count c = search (rules, row_inside)

pub slice_bounds-run_file-start : goal.slice_bounds-run_file-start
slice_bounds-run_file-start c = search (rules, row_inside)

pub slice_bounds-run_file-count-in-Column : goal.slice_bounds-run_file-count-in-Column
slice_bounds-run_file-count-in-Column c = search (rules, column_inside)

pub slice_bounds-run_file-start-in-Column : goal.slice_bounds-run_file-start-in-Column
slice_bounds-run_file-start-in-Column c = search (rules, column_inside)

pub slice_bounds-run_deliver-count : goal.slice_bounds-run_deliver-count
slice_bounds-run_deliver-count c = search (rules, deliver_inside)

pub slice_bounds-run_deliver-start : goal.slice_bounds-run_deliver-start
slice_bounds-run_deliver-start c = search (rules, deliver_inside)

pub returns-in-Empty : goal.returns-in-Empty
returns-in-Empty c = search (rules, line_empty)

pub returns-in-Row : goal.returns-in-Row
returns-in-Row c = search (rules, line_row)

pub returns-in-Column : goal.returns-in-Column
returns-in-Column c = search (rules, line_column)

pub returns-in-Open : goal.returns-in-Open
returns-in-Open c = search (rules, line_open)

pub returns-in-Deliver : goal.returns-in-Deliver
returns-in-Deliver c = search (rules, line_deliver)

pub returns-in-Withdraw : goal.returns-in-Withdraw
returns-in-Withdraw c = search (rules, line_withdraw)

pub returns-in-Verdict : goal.returns-in-Verdict
returns-in-Verdict c = search (rules, line_verdict)

pub returns-in-Malformed : goal.returns-in-Malformed
returns-in-Malformed c = search (rules, line_malformed)

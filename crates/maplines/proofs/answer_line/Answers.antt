-- `answer_line` meets its contract. Assumes nothing.
use Rattle.maplines.proofs.Ways.{told, run_inside, compose_inside, verdict_inside, line_run, line_compose, line_verdict, line_other}
use borrow.Author.Rules.{rules}
use Rattle.maplines.proofs.answer_line.Goals as goal

pub slice_bounds-answer_run-count : goal.slice_bounds-answer_run-count
slice_bounds-answer_run-count c = search (rules, told, run_inside)

pub slice_bounds-answer_run-start : goal.slice_bounds-answer_run-start
slice_bounds-answer_run-start c = search (rules, told, run_inside)

pub returns-then-begins_with : goal.returns-then-begins_with
returns-then-begins_with c = search (rules, told, line_run)

pub answer_compose-requires : goal.answer_compose-requires
answer_compose-requires c = search (rules, told, compose_inside)

pub returns-then-begins_with-2 : goal.returns-then-begins_with-2
returns-then-begins_with-2 c = search (rules, told, line_compose)

pub slice_bounds-answer_verdict-count : goal.slice_bounds-answer_verdict-count
slice_bounds-answer_verdict-count c = search (rules, told, verdict_inside)

pub slice_bounds-answer_verdict-start : goal.slice_bounds-answer_verdict-start
slice_bounds-answer_verdict-start c = search (rules, told, verdict_inside)

pub returns-then-begins_with-3 : goal.returns-then-begins_with-3
returns-then-begins_with-3 c = search (rules, told, line_verdict)

pub returns : goal.returns
returns c = search (rules, told, line_other)

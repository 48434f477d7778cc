-- `run_line` meets its contract. Assumes nothing.
use Rattle.followlines.proofs.Ways.{told, rule_inside, next_inside, empty_line, rule_line, next_line, other_line}
use borrow.Author.Rules.{rules}
use Rattle.followlines.proofs.run_line.Goals as goal

pub returns-then-line-eq0 : goal.returns-then-line-eq0
returns-then-line-eq0 c = search (rules, empty_line)

pub slice_bounds-run_field-count : goal.slice_bounds-run_field-count
slice_bounds-run_field-count c = search (rules, told, rule_inside)

pub slice_bounds-run_field-start : goal.slice_bounds-run_field-start
slice_bounds-run_field-start c = search (rules, told, rule_inside)

pub returns-then-begins_with : goal.returns-then-begins_with
returns-then-begins_with c = search (rules, told, rule_line)

pub slice_bounds-run_field-count-then-begins_with-2 : goal.slice_bounds-run_field-count-then-begins_with-2
slice_bounds-run_field-count-then-begins_with-2 c = search (rules, told, next_inside)

pub slice_bounds-run_field-start-then-begins_with-2 : goal.slice_bounds-run_field-start-then-begins_with-2
slice_bounds-run_field-start-then-begins_with-2 c = search (rules, told, next_inside)

pub returns-then-begins_with-2 : goal.returns-then-begins_with-2
returns-then-begins_with-2 c = search (rules, told, next_line)

pub returns : goal.returns
returns c = search (rules, told, other_line)

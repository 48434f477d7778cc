-- `run_line` meets its contract. Assumes nothing.
use Rattle.maplines.proofs.Ways.{told, build_inside, empty_text, empty_left, build_text, build_state, other_text, other_state}
use borrow.Author.Rules.{rules}
use Rattle.maplines.proofs.run_line.Goals as goal

pub returns-then-line-eq0 : goal.returns-then-line-eq0
returns-then-line-eq0 c = search (rules, empty_text, empty_left)

pub slice_bounds-answer_build-count : goal.slice_bounds-answer_build-count
slice_bounds-answer_build-count c = search (rules, told, build_inside)

pub slice_bounds-answer_build-start : goal.slice_bounds-answer_build-start
slice_bounds-answer_build-start c = search (rules, told, build_inside)

pub returns-then-begins_with : goal.returns-then-begins_with
returns-then-begins_with c =
    let built = c.answer_build in
    let word = told c.begins_with.ensures c.if-begins_with.true in
    let some_byte = c.if-line-eq0.false in
    record { state_value = build_state _ _ some_byte word _ built.ensures.state_value; text = build_text _ _ _ _ _ some_byte word built.ensures.text; scratch = built.ensures.scratch }

pub returns : goal.returns
returns c =
    let said = c.answer_line-said in
    let other = told c.begins_with.ensures c.if-begins_with.false in
    let some_byte = c.if-line-eq0.false in
    record { state_value = other_state _ _ some_byte other; text = other_text _ _ _ _ _ some_byte other said.ensures.says; scratch = said.ensures.scratch }

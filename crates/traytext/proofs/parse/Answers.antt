-- `parse` meets its contract. Assumes nothing.
use Rattle.traytext.proofs.Readings.{long_open, long_deliver, long_withdraw, parsed_empty, parsed_verdict, parsed_more, parsed_row, parsed_column, parsed_open, parsed_delivery, parsed_withdrawal, parsed_other}
use Rattle.calltext.proofs.Readings.{told}
use borrow.Author.Rules.{rules}
use Rattle.traytext.proofs.parse.Goals as goal

pub returns-then-line-eq0 : goal.returns-then-line-eq0
returns-then-line-eq0 c = search (rules, parsed_empty)

pub returns-then-line-eq7 : goal.returns-then-line-eq7
returns-then-line-eq7 c = search (rules, told, parsed_verdict)

pub returns-then-begins_with : goal.returns-then-begins_with
returns-then-begins_with c = search (rules, told, parsed_more)

pub returns-then-begins_with-2 : goal.returns-then-begins_with-2
returns-then-begins_with-2 c = search (rules, told, parsed_row)

pub returns-then-begins_with-3 : goal.returns-then-begins_with-3
returns-then-begins_with-3 c = search (rules, told, parsed_column)

pub opening-requires : goal.opening-requires
opening-requires c = search (rules, told, long_open)

pub returns-then-begins_with-4 : goal.returns-then-begins_with-4
returns-then-begins_with-4 c = search (rules, told, parsed_open)

pub delivery-requires : goal.delivery-requires
delivery-requires c = search (rules, told, long_deliver)

pub returns-then-begins_with-5 : goal.returns-then-begins_with-5
returns-then-begins_with-5 c = search (rules, told, parsed_delivery)

pub slice_bounds-withdrawal-count : goal.slice_bounds-withdrawal-count
slice_bounds-withdrawal-count c = search (rules, told, long_withdraw)

pub slice_bounds-withdrawal-start : goal.slice_bounds-withdrawal-start
slice_bounds-withdrawal-start c = search (rules, told, long_withdraw)

pub returns-then-begins_with-6 : goal.returns-then-begins_with-6
returns-then-begins_with-6 c = parsed_withdrawal _ (search rules) (search (rules, told)) (search (rules, told)) (search (rules, told)) (search (rules, told)) (search (rules, told)) (search (rules, told)) _ c.withdrawal.ensures.0 (c.withdrawal.ensures.1 c.args.line.now)

pub returns : goal.returns
returns c = search (rules, told, parsed_other)

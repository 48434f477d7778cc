-- `read_on` meets its contract. Assumes nothing.
use borrow.Author.Rules.{rules}
use Rattle.hexfields.proofs.Kept.{to_digit, to_dash, to_other, even_to_digit, even_to_stray, odd_to_even, odd_to_stray, dash_to_stray, stray_to_stray}
use Rattle.hexfields.proofs.read_on.Goals as goal

pub returns-then-value-lt16 : goal.returns-then-value-lt16
returns-then-value-lt16 c = search (rules, to_digit)

pub returns-then-c-eq45 : goal.returns-then-c-eq45
returns-then-c-eq45 c = search (rules, to_dash)

pub returns-then-value-lt16-2 : goal.returns-then-value-lt16-2
returns-then-value-lt16-2 c = search (rules, even_to_digit)

pub returns-then-value-lt16-3 : goal.returns-then-value-lt16-3
returns-then-value-lt16-3 c = search (rules, odd_to_even)

pub returns-else-c-eq45 : goal.returns-else-c-eq45
returns-else-c-eq45 c = search (rules, to_other)

pub returns-else-value-lt16-2 : goal.returns-else-value-lt16-2
returns-else-value-lt16-2 c = search (rules, even_to_stray)

pub returns-else-value-lt16-3 : goal.returns-else-value-lt16-3
returns-else-value-lt16-3 c = search (rules, odd_to_stray)

pub returns-in-Dash : goal.returns-in-Dash
returns-in-Dash c = search (rules, dash_to_stray)

pub returns-in-Stray : goal.returns-in-Stray
returns-in-Stray c = search (rules, stray_to_stray)

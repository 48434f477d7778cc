-- `is_lacking` meets its contract. Assumes nothing.
use borrow.Author.Rules.{rules}
use Rattle.formback.proofs.Turns.{empty_cell, other_cell}
use Rattle.formback.proofs.is_lacking.Goals as goal

pub returns-then-cell-eq-EMPTY : goal.returns-then-cell-eq-EMPTY
returns-then-cell-eq-EMPTY c = search (rules, empty_cell)

pub returns : goal.returns
returns c = search (rules, other_cell)

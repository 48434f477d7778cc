-- `first_cell` meets its contract. The invariant: no cell of a row passed holds the number. It stands
-- in a row before its own, so the loop does not pass them all. Assumes nothing.
use native.Mathlib.Omega.{arith}
use Rattle.searches.proofs.Cells.{few_symbols, cell_found, row_passed, cell_none}
use Rattle.searches.proofs.first_cell.Goals as goal

pub loop-row-init : goal.loop-row-init
loop-row-init c = (omega arith, λ t b. absurd (omega arith))

pub first_symbol-symbol-requires : goal.first_symbol-symbol-requires
first_symbol-symbol-requires c =
    let a = c.args in
    let t = c.requires.1 in
    (omega (arith, t.small), few_symbols a.next.now a.k a.number.0 t)

pub overflow_add-result : goal.overflow_add-result
overflow_add-result c =
    omega (arith, few_symbols c.args.next.now c.args.k c.args.number.0 c.requires.1)

pub returns-then-symbol-k : goal.returns-then-symbol-k
returns-then-symbol-k c =
    let x = c.loop-row in
    let f = c.first_symbol-symbol in
    cell_found c.args.next.now c.args.k c.args.number.0 c.requires.1 c.requires.0 x.row (omega arith) f.result f.ensures x.invariant.1 c.if-symbol-k.true

pub loop-row-preserved : goal.loop-row-preserved
loop-row-preserved c =
    let x = c.loop-row in
    let f = c.first_symbol-symbol in (
      omega arith,
      row_passed c.args.next.now c.args.k c.args.number.0 c.requires.1 c.requires.0 x.row (omega arith) f.result f.ensures x.invariant.1 c.if-symbol-k.false,
    )

pub returns : goal.returns
returns c =
    let x = c.loop-row in
    absurd (cell_none c.args.next.now c.args.k c.args.number.0 c.requires.1 c.requires.0 x.row (omega arith) x.invariant.1)

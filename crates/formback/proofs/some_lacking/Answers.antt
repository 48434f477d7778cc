-- `some_lacking` meets its contract. The loop's invariant: no cell passed names such a set. Assumes nothing.
use native.Mathlib.Omega.{arith}
use lib.ListN.{get_or}
use Rattle.forms.specs.Back.{lacking}
use Rattle.formback.proofs.Turns.{passed_none, passed_more, passed_all, found}
use Rattle.formback.proofs.some_lacking.Goals as goal

pub loop-i-init : goal.loop-i-init
loop-i-init c = let a = c.args in passed_none (λ j. lacking a.sets (get_or a.cells.now j 0)) a.count

pub returns-then-is_lacking : goal.returns-then-is_lacking
returns-then-is_lacking c =
    let a = c.args in
    found (λ j. lacking a.sets (get_or a.cells.now j 0)) a.count c.loop-i.i c.is_lacking.result (omega arith) c.is_lacking.ensures c.if-is_lacking.true

pub loop-i-preserved : goal.loop-i-preserved
loop-i-preserved c =
    let a = c.args in
    passed_more (λ j. lacking a.sets (get_or a.cells.now j 0)) a.count c.loop-i.i c.is_lacking.result (omega arith) c.is_lacking.ensures c.if-is_lacking.false c.loop-i.invariant

pub returns : goal.returns
returns c =
    let a = c.args in
    passed_all (λ j. lacking a.sets (get_or a.cells.now j 0)) a.count c.loop-i.i (omega arith) c.loop-i.invariant

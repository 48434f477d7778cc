-- `first_lacks` meets its contract. The loop's invariant: no symbol passed is left out. Assumes nothing.
use mathlib.Core.Path.{ap}
use mathlib.Core.Bool.{not}
use native.Mathlib.Omega.{arith}
use lib.ListN.{get_or}
use Rattle.masks.specs.Masks.{has}
use Rattle.formback.proofs.Turns.{passed_none, passed_more, passed_all, found}
use Rattle.formback.proofs.first_lacks.Goals as goal

pub loop-s-init : goal.loop-s-init
loop-s-init c = let a = c.args in passed_none (λ j. not (has (get_or a.kept.now 0 0) j)) a.k

pub returns-then-not-has_symbol : goal.returns-then-not-has_symbol
returns-then-not-has_symbol c =
    let a = c.args in
    found (λ j. not (has (get_or a.kept.now 0 0) j)) a.k c.loop-s.s (not c.has_symbol.result) (omega arith) (ap not c.has_symbol.ensures) (ap not c.if-not-has_symbol.true)

pub loop-s-preserved : goal.loop-s-preserved
loop-s-preserved c =
    let a = c.args in
    passed_more (λ j. not (has (get_or a.kept.now 0 0) j)) a.k c.loop-s.s (not c.has_symbol.result) (omega arith) (ap not c.has_symbol.ensures) (ap not c.if-not-has_symbol.false) c.loop-s.invariant

pub returns : goal.returns
returns c =
    let a = c.args in
    passed_all (λ j. not (has (get_or a.kept.now 0 0) j)) a.k c.loop-s.s (omega arith) c.loop-s.invariant

-- `stray_bits` meets its contract. The loop's invariant: no mask passed has such a bit. Assumes nothing.
use Prim.Native.Nat.{◌^◌}
use native.Mathlib.Omega.{arith}
use lib.Dec.{leb}
use lib.ListN.{get_or}
use Rattle.formback.proofs.Turns.{passed_none, passed_more, passed_all, found}
use Rattle.formback.proofs.stray_bits.Goals as goal

pub loop-t-init : goal.loop-t-init
loop-t-init c = let a = c.args in passed_none (λ j. leb (2 ^ a.k) (get_or a.kept.now j 0)) a.sets

pub returns-then-beyond : goal.returns-then-beyond
returns-then-beyond c =
    let a = c.args in
    found (λ j. leb (2 ^ a.k) (get_or a.kept.now j 0)) a.sets c.loop-t.t c.beyond.result (omega arith) c.beyond.ensures c.if-beyond.true

pub loop-t-preserved : goal.loop-t-preserved
loop-t-preserved c =
    let a = c.args in
    passed_more (λ j. leb (2 ^ a.k) (get_or a.kept.now j 0)) a.sets c.loop-t.t c.beyond.result (omega arith) c.beyond.ensures c.if-beyond.false c.loop-t.invariant

pub returns : goal.returns
returns c =
    let a = c.args in
    passed_all (λ j. leb (2 ^ a.k) (get_or a.kept.now j 0)) a.sets c.loop-t.t (omega arith) c.loop-t.invariant

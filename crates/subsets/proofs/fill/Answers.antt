-- `fill` meets its contract. The loop's invariant: the first count sets are those that the
-- definition has after the states below q, and the arrays hold them and every cell of theirs.
-- Assumes nothing.
use mathlib.Core.Path.{◌≡◌, refl, sym, ap, ◌∙◌}
use Prim.Native.Nat.{min}
use native.Mathlib.Omega.{arith}
use lib.ListN.{take}
use Rattle.numbering.specs.Numbering.{keys_up_to}
use Rattle.numbering.proofs.Turns.{begin, grown_whole}
use Rattle.subsets.specs.Sets.{set_walk, sets_up_to, sets_of}
use Rattle.subsets.proofs.Turns.{in_row, not_empty, states_more, states_over}
use Rattle.subsets.proofs.fill.Goals as goal

pub loop-q-init : goal.loop-q-init
unfolding keys_up_to
loop-q-init c =
    let a = c.args in
    (c.min-q-end.ensures, omega arith, omega arith, refl, begin (set_walk a.targets.now a.k) 512 a.sets.now a.next.now c.requires)

pub add-requires : goal.add-requires
add-requires c =
    let one = c.singleton-set in
    let x = c.loop-q in
    let a = c.args in
    record { count_le_most_sets = (x.invariant.2, not_empty one.result x.q one.ensures, x.invariant.4); in_row = in_row a.targets.now a.k }

pub returns-in_err-count : goal.returns-in_err-count
returns-in_err-count c =
    let w = c.add in
    let one = c.singleton-set in
    let x = c.loop-q in
    let a = c.args in
    rw c.from_residual.ensures
    (states_over a.targets.now a.k x.q one.result one.ensures (take x.count x.sets) x.invariant.3 w.result _ _ w.ensures c.in_err-count.was a.n (omega arith))

pub loop-q-preserved : goal.loop-q-preserved
loop-q-preserved c =
    let w = c.add in
    let one = c.singleton-set in
    let x = c.loop-q in
    let a = c.args in
    let m = states_more a.targets.now a.k x.q one.result one.ensures (take x.count x.sets) x.invariant.3 w.result w.new.keys w.new.next w.ensures c.in_ok-count.count c.in_ok-count.was in
    (x.invariant.0, omega arith, m.0, m.1, m.2)

pub returns : goal.returns
unfolding sets_of
returns c =
    let x = c.loop-q in
    let a = c.args in
    let e : x.q ≡ min a.n 32 = omega arith in
    grown_whole (set_walk a.targets.now a.k) 512 (sets_of a.targets.now a.n a.k) x.sets x.next x.count x.invariant.2
    (sym (x.invariant.3 ∙ ap (sets_up_to a.targets.now a.k) e))
    x.invariant.4

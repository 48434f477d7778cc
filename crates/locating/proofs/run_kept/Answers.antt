-- `run_kept` meets its contract. Assumes nothing.
use lib.ListN.{length}
use mathlib.Core.Path.{◌≡◌, ap, ◌∙◌}
use Prim.Native.Nat.{◌+◌}
use native.Mathlib.Omega.{arith}
use borrow.Author.Rules.{rules}
use Rattle.chunks.specs.mirror.Walks.{mask_of}
use Rattle.locating.specs.mirror.Pruning.{pruned}
use Rattle.locating.proofs.ByRun.{Ran, not_yet, run_dead, run_next, run_whole}
use Rattle.locating.proofs.run_kept.Goals as goal

pub returns-then-set-ge-EMPTY : goal.returns-then-set-ge-EMPTY
returns-then-set-ge-EMPTY c =
    let a = c.args in
    let cut = pruned a.sets.now a.next.now a.live a.count in
    let d = run_dead cut a.from.0 a.text.now 0 a.from.0 (not_yet cut a.from.0 a.text.now) a.sets.now c.if-set-ge-EMPTY.true in
    record { mask_value = d.0; looked_value = d.1 }

pub loop-i-init : goal.loop-i-init
loop-i-init c = (search rules, not_yet _ _ _)

pub returns-then-set-ge-EMPTY-2 : goal.returns-then-set-ge-EMPTY-2
returns-then-set-ge-EMPTY-2 c =
    let l = c.loop-i in
    let a = c.args in
    let cut = pruned a.sets.now a.next.now a.live a.count in
    let set = c.kept_step-after.result.0 in
    let ran : Ran cut a.from.0 a.text.now (l.i + 1) set =
    run_next cut a.from.0 a.text.now l.i l.set l.invariant.1 (omega arith) l.invariant.0 set c.kept_step-after.ensures in
    let d = run_dead cut a.from.0 a.text.now (l.i + 1) set ran a.sets.now c.if-set-ge-EMPTY-2.true in
    record { mask_value = d.0; looked_value = d.1 }

pub loop-i-preserved : goal.loop-i-preserved
loop-i-preserved c =
    let l = c.loop-i in
    let a = c.args in
    let cut = pruned a.sets.now a.next.now a.live a.count in
    let set = c.kept_step-after.result.0 in
    let ran : Ran cut a.from.0 a.text.now (l.i + 1) set =
    run_next cut a.from.0 a.text.now l.i l.set l.invariant.1 (omega arith) l.invariant.0 set c.kept_step-after.ensures in
    (c.if-set-ge-EMPTY-2.false, ran)

pub returns : goal.returns
returns c =
    let l = c.loop-i in
    let a = c.args in
    let cut = pruned a.sets.now a.next.now a.live a.count in
    let w = run_whole cut a.from.0 a.text.now l.i l.set l.invariant.1 (omega arith) in
    let e : length a.text.now ≡ l.i = omega arith in
    record { mask_value = c.mask_of.ensures ∙ ap (mask_of a.sets.now) w.0; looked_value = e ∙ w.1 }

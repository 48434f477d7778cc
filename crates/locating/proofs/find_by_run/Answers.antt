-- `find_by_run` meets its contract: the runs of the states below q are over. Assumes nothing.
use mathlib.Core.Path.{◌≡◌, refl, sym, subst, ◌∙◌}
use Prim.Native.Nat.{ℕ, ◌+◌}
use native.Mathlib.Omega.{arith}
use Rattle.base.specs.Totals.{greatest}
use Rattle.base.proofs.Conditions.{none_yet}
use Rattle.locating.specs.mirror.Pruning.{pruned}
use Rattle.locating.proofs.ByRun.{Over, one_left, over_run, over_other, all_over}
use Rattle.locating.proofs.find_by_run.Goals.{else-member, then-member+else-run-gt0}
use Rattle.locating.proofs.find_by_run.Goals as goal

pub loop-q-init : goal.loop-q-init
unfolding greatest
loop-q-init c = (record { none = none_yet _; most = refl })

pub returns-then-run-gt0 : goal.returns-then-run-gt0
returns-then-run-gt0 c =
    let loop = c.loop-q in
    let a = c.args in
    one_left a.sets.now _ a.singles.now _ a.text.now loop.q c.loop-q-test.true
    (sym c.member.ensures ∙ c.if-member.true) _ c.run_kept-run.ensures.mask_value c.if-run-gt0.true

pub loop-q-preserved : goal.loop-q-preserved
loop-q-preserved c =
    let loop = c.loop-q in
    let a = c.args in
    let cut = pruned a.sets.now a.next.now a.live a.count in
    let over : ℕ → Type 0 = λ n. Over a.sets.now cut a.singles.now a.starts a.text.now (loop.q + 1) n in
    let here = c.loop-q-test.true in
    let tested = c.member.ensures in
    (elim c.if-member.branch [
      | then-member+else-run-gt0 w ↦ subst over (sym (w.looked-is ∙ w.max-looked.ensures))
          (over_run a.sets.now cut a.singles.now a.starts a.text.now loop.q here loop.looked loop.invariant
          (sym tested ∙ w.if-member.true) _ _ w.run_kept-run.ensures.mask_value w.if-run-gt0.false w.run_kept-run.ensures.looked_value)
      | else-member w ↦ subst over (sym w.looked-is)
          (over_other a.sets.now cut a.singles.now a.starts a.text.now loop.q here loop.looked loop.invariant
          (sym tested ∙ w.if-member.false))
    ])

pub returns : goal.returns
returns c =
    let loop = c.loop-q in
    let a = c.args in
    let cut = pruned a.sets.now a.next.now a.live a.count in
    let e : loop.q ≡ 32 = omega arith in
    all_over a.sets.now cut a.singles.now a.starts a.text.now loop.looked
    (subst (λ (q : ℕ). Over a.sets.now cut a.singles.now a.starts a.text.now q loop.looked) e loop.invariant)

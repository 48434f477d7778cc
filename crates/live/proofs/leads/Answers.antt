-- `leads` meets its contract. The loop's invariant: no symbol passed leads there. Assumes nothing.
use mathlib.Core.Path.{◌≡◌, sym, ap, ◌∙◌}
use mathlib.Core.Bool.{false}
use Prim.Native.Nat.{ℕ}
use native.Mathlib.Omega.{arith}
use borrow.Author.Rules.{rules}
use Rattle.base.proofs.Conditions.{none_yet, none_more, any_at}
use Rattle.masks.specs.Masks.{shares}
use Rattle.automaton.specs.Rules.{target_mask}
use Rattle.live.proofs.Backwards.{cell}
use Rattle.live.proofs.leads.Goals as goal

pub loop-s-init : goal.loop-s-init
loop-s-init c =
    let a = c.args in
    (search rules, none_yet (λ x. shares (target_mask a.targets.now a.q.0 x) a.set))

pub returns-then-meets : goal.returns-then-meets
returns-then-meets c =
    let x = c.loop-s in
    let a = c.args in
    sym (any_at (λ y. shares (target_mask a.targets.now a.q.0 y) a.set) 16 x.s (omega arith)
    (ap (λ (y : ℕ). shares y a.set) (sym (cell a.targets.now a.q.0 x.s (omega arith))) ∙ sym c.meets.ensures ∙ c.if-meets.true))

pub loop-s-preserved : goal.loop-s-preserved
loop-s-preserved c =
    let x = c.loop-s in
    let a = c.args in (
      x.invariant.0,
      none_more (λ y. shares (target_mask a.targets.now a.q.0 y) a.set) x.s x.invariant.1
          (ap (λ (y : ℕ). shares y a.set) (sym (cell a.targets.now a.q.0 x.s (omega arith))) ∙ sym c.meets.ensures ∙ c.if-meets.false),
    )

pub returns : goal.returns
returns c =
    let x = c.loop-s in
    let e : x.s ≡ 16 = omega arith in
    sym (rw e at x.invariant.1)

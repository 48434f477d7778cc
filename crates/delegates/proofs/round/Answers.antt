-- `round` meets its contract. The loop's invariant: each set passed has its new class, and
-- `changed` tells whether that of one of them is another than its old one. Assumes nothing.
use borrow.Author.Rules.{rules}
use mathlib.Core.Path.{◌≡◌, refl, sym, ap, ◌∙◌}
use mathlib.Core.Bool.{Bool, not}
use Prim.Native.Nat.{ℕ}
use native.Mathlib.Omega.{arith}
use borrow.Author.Count.{below_none}
use borrow.Author.Tests.{eq-eqb, ne_eqb}
use lib.Dec.{eqb}
use lib.ListN.{length-set}
use Rattle.base.proofs.Lists.{cell_stored, is_list_from}
use Rattle.delegates.specs.mirror.Classes.{every}
use Rattle.delegates.specs.mirror.Refinement.{class_of, least_of}
use Rattle.delegates.proofs.Tests.{every_more, every_fails}
use Rattle.delegates.proofs.round.Goals.{else-from-to, then-from-to}
use Rattle.delegates.proofs.round.Goals as goal

pub loop-s-init : goal.loop-s-init
unfolding every
loop-s-init c = ((search rules), below_none _, refl)

pub least-to-requires : goal.least-to-requires
least-to-requires c = (c.requires, omega arith)

pub loop-s-preserved : goal.loop-s-preserved
loop-s-preserved c =
    let l = c.loop-s in
    let a = c.args in
    let least : ℕ → ℕ = least_of a.sets.now a.next.now a.finals a.k a.class.now in
    let test : ℕ → Bool = λ b. eqb (class_of a.class.now b) (least b) in
    let is : c.least-to.result.0 ≡ least l.s = c.least-to.ensures in (
      simp length-set l.invariant.0,
      cell_stored l.new least l.s c.least-to.result.0 (omega arith) is l.invariant.1,
      (elim c.if-from-to.branch [
        | then-from-to w ↦ w.changed-is ∙ every_fails test l.s (ne_eqb (class_of a.class.now l.s) (least l.s) (λ e. w.if-from-to.true (e ∙ sym is)))
        | else-from-to w ↦ w.changed-is ∙ l.invariant.2 ∙ ap not (every_more test l.s (eq-eqb (class_of a.class.now l.s) (least l.s) (w.if-from-to.false ∙ is)))
      ]),
    )

pub returns : goal.returns
returns c =
    let l = c.loop-s in
    let a = c.args in
    let least : ℕ → ℕ = least_of a.sets.now a.next.now a.finals a.k a.class.now in
    let all : l.s ≡ 513 = omega arith in (
      is_list_from l.new 513 least l.invariant.0 (λ b h. l.invariant.1 b (omega arith)),
      l.invariant.2 ∙ ap (λ (n : ℕ). not (every n (λ b. eqb (class_of a.class.now b) (least b)))) all,
    )

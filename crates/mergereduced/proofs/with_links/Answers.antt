-- `with_links` meets its contract. The loop's invariant: the numbers below p that q is linked to
-- are in `out`, with the set. Assumes nothing.
use mathlib.Core.Path.{◌≡◌, sym, ap, ◌∙◌}
use mathlib.Core.Bool.{Bool}
use Prim.Native.Nat.{ℕ, ◌<◌}
use native.Mathlib.Omega.{arith}
use borrow.Author.Rules.{rules}
use lib.Bits.{bit_or, or_zero_r}
use lib.ListN.{length, length-set}
use Rattle.masks.specs.Masks.{mask_of}
use Rattle.merging.specs.Merged.{states_of}
use Rattle.mergereduced.specs.mirror.Asked.{set_in, link_in, link_by}
use Rattle.mergereduced.proofs.Cells.{cell_in, set_added}
use Rattle.mergereduced.proofs.Ways.{both_small, states_most}
use Rattle.mergereduced.proofs.Closure.{links_add, links_skip, links_known}
use Rattle.mergereduced.proofs.with_links.Goals.{else-out-p-ne1, then-out-p-ne1+else-linked, then-out-p-ne1+then-linked}
use Rattle.mergereduced.proofs.with_links.Goals as goal

pub states-n-requires : goal.states-n-requires
states-n-requires c = both_small c.args.n1 c.args.n2 c.requires.0

pub loop-p-init : goal.loop-p-init
unfolding mask_of
loop-p-init c = (search rules, c.states-n.ensures, sym (or_zero_r (set_in c.args.set)))

pub bounds-out-p : goal.bounds-out-p
bounds-out-p c =
    let g = c.requires in
    let a = c.args in
    omega (arith, c.loop-p-test.true, c.loop-p.invariant.1, states_most a.way a.n1 a.n2 g.0)

pub linked-requires : goal.linked-requires
linked-requires c =
    let g = c.requires in
    (g.0, g.1, omega (arith, c.loop-p-test.true, c.loop-p.invariant.1))

pub bounds-out-p-then-linked : goal.bounds-out-p-then-linked
bounds-out-p-then-linked c =
    let g = c.requires in
    let a = c.args in
    omega (arith, c.loop-p-test.true, c.loop-p.invariant.1, states_most a.way a.n1 a.n2 g.0)

pub loop-p-preserved : goal.loop-p-preserved
loop-p-preserved c =
    let l = c.loop-p in
    let a = c.args in
    let g = c.requires in
    let h : l.p < 1024 = omega (arith, c.loop-p-test.true, l.invariant.1, states_most a.way a.n1 a.n2 g.0) in
    let f : ℕ → Bool = link_by a.forth (link_in a.way a.n1 a.n2 a.m1.now a.m2.now) a.q in
    let m = set_in a.set in
    (elim c.if-out-p-ne1.branch [
      | then-out-p-ne1+then-linked w ↦ (
        ap length w.out-is ∙ length-set l.out l.p 1 ∙ l.invariant.0,
        l.invariant.1,
        ap set_in w.out-is ∙ set_added l.out l.p h l.invariant.0 ∙ links_add f m (set_in l.out) l.p l.invariant.2 (sym w.linked.ensures ∙ w.if-linked.true),
      )
      | then-out-p-ne1+else-linked w ↦ (
        ap length w.out-is ∙ l.invariant.0,
        l.invariant.1,
        ap set_in w.out-is ∙ links_skip f m (set_in l.out) l.p l.invariant.2 (sym w.linked.ensures ∙ w.if-linked.false),
      )
      | else-out-p-ne1 w ↦ (
        ap length w.out-is ∙ l.invariant.0,
        l.invariant.1,
        ap set_in w.out-is ∙ links_known f m (set_in l.out) l.p l.invariant.2 (cell_in l.out l.p h w.if-out-p-ne1.false),
      )
    ])

pub returns : goal.returns
returns c =
    let l = c.loop-p in
    let a = c.args in
    let e : l.p ≡ states_of a.way a.n1 a.n2 = omega (arith, l.invariant.1, c.loop-p-test.false) in
    l.invariant.2 ∙ ap (λ (x : ℕ). bit_or (set_in a.set) (mask_of (link_by a.forth (link_in a.way a.n1 a.n2 a.m1.now a.m2.now) a.q) x)) e

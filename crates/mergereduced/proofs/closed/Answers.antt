-- `closed` meets its contract. The loop keeps what proofs/Closure.antt says of the set and of those
-- whose links are added, which grow by one each time round. Assumes nothing.
use mathlib.Core.Path.{◌≡◌, sym, ap, ◌∙◌, subst}
use mathlib.Core.Bool.{Bool}
use Prim.Native.Nat.{ℕ, ◌<◌}
use native.Mathlib.Omega.{arith}
use lib.ListN.{set, length-set, length-replicate}
use Rattle.delegates.specs.mirror.Classes.{first_from}
use Rattle.merging.specs.Merged.{states_of}
use Rattle.mergereduced.specs.mirror.Asked.{set_in, link_in, link_by, fresh_in}
use Rattle.mergereduced.proofs.Cells.{set_added, set_empty}
use Rattle.mergereduced.proofs.Ways.{both_small, states_most}
use Rattle.mergereduced.proofs.Closure.{Kept, kept_first, kept_more, fresh_there, fresh_none, done_less}
use Rattle.mergereduced.proofs.closed.Goals as goal

pub states-n-requires : goal.states-n-requires
states-n-requires c = both_small c.args.n1 c.args.n2 c.requires.0

pub fresh-q-requires : goal.fresh-q-requires
fresh-q-requires c =
    let a = c.args in
    omega (arith, c.states-n.ensures, states_most a.way a.n1 a.n2 c.requires.0)

pub loop-q-init : goal.loop-q-init
loop-q-init c =
    let a = c.args in
    let n = states_of a.way a.n1 a.n2 in
    let link : ℕ → ℕ → Bool = link_by a.forth (link_in a.way a.n1 a.n2 a.m1.now a.m2.now) in (
      c.states-n.ensures,
      length-replicate {A = ℕ} 1024 0,
      c.fresh-q.ensures,
      subst (Kept link n (set_in a.start) (set_in a.start)) (sym set_empty) (kept_first link n (set_in a.start) c.requires.1),
    )

pub with_links-set-requires : goal.with_links-set-requires
with_links-set-requires c =
    (c.requires.0, omega (arith, c.loop-q-test.true, c.loop-q.invariant.0))

pub bounds-done-q : goal.bounds-done-q
bounds-done-q c =
    let a = c.args in
    omega (arith, c.loop-q-test.true, c.loop-q.invariant.0, states_most a.way a.n1 a.n2 c.requires.0)

pub fresh-q-requires-in-loop-q : goal.fresh-q-requires-in-loop-q
fresh-q-requires-in-loop-q c =
    let a = c.args in
    omega (arith, c.loop-q.invariant.0, states_most a.way a.n1 a.n2 c.requires.0)

pub loop-q-smaller : goal.loop-q-smaller
loop-q-smaller c =
    let l = c.loop-q in
    let a = c.args in
    let g = c.requires in
    let n = c.states-n.result in
    let t = c.loop-q-test.true in
    let h : l.q < 1024 = omega (arith, t, l.invariant.0, states_most a.way a.n1 a.n2 g.0) in
    done_less n (set_in l.done) (set_in (set l.done l.q 1)) l.q (set_added l.done l.q h l.invariant.1) t
    (fresh_there n (set_in l.set) (set_in l.done) l.q l.invariant.2 t).1

pub loop-q-preserved : goal.loop-q-preserved
loop-q-preserved c =
    let l = c.loop-q in
    let a = c.args in
    let g = c.requires in
    let n = c.states-n.result in
    let t = c.loop-q-test.true in
    let link : ℕ → ℕ → Bool = link_by a.forth (link_in a.way a.n1 a.n2 a.m1.now a.m2.now) in
    let h : l.q < 1024 = omega (arith, t, l.invariant.0, states_most a.way a.n1 a.n2 g.0) in
    let more = c.with_links-set in (
      l.invariant.0,
      length-set l.done l.q 1 ∙ l.invariant.1,
      c.fresh-q-in-loop-q.ensures,
      kept_more link (states_of a.way a.n1 a.n2) (set_in a.start) g.1 (set_in l.set) (set_in l.done) l.invariant.3 l.q (omega (arith, t, l.invariant.0))
          (fresh_there n (set_in l.set) (set_in l.done) l.q l.invariant.2 t).0
          (set_in more.result)
          (set_in (set l.done l.q 1))
          more.ensures
          (set_added l.done l.q h l.invariant.1),
    )

pub returns : goal.returns
returns c =
    let l = c.loop-q in
    let a = c.args in
    let g = c.requires in
    let n = states_of a.way a.n1 a.n2 in
    let link : ℕ → ℕ → Bool = link_by a.forth (link_in a.way a.n1 a.n2 a.m1.now a.m2.now) in
    let is : l.q ≡ first_from (fresh_in (set_in l.set) (set_in l.done)) 0 n =
    l.invariant.2 ∙ ap (first_from (fresh_in (set_in l.set) (set_in l.done)) 0) l.invariant.0 in
    fresh_none n (set_in l.set) (set_in l.done) l.q is link (set_in a.start) (omega (arith, c.loop-q-test.false, l.invariant.0)) g.1 l.invariant.3

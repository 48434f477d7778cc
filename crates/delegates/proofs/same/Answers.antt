-- `same` meets its contract: its answer decides `Same`, as the test does. The loop's invariant: the
-- successors by each symbol passed are in one class. Assumes nothing.
use mathlib.Core.Path.{sym, ap, ◌∙◌}
use Prim.Native.Nat.{◌≤◌}
use native.Mathlib.Nat.{lt_of_lt_of_le}
use native.Mathlib.Omega.{arith}
use borrow.Author.Count.{below_none, below_more}
use Rattle.delegates.specs.mirror.Refinement.{class_of}
use Rattle.delegates.proofs.Tests.{confirmed, refuted, differ, agree}
use Rattle.delegates.proofs.Classes.{follow_within, same_law}
use Rattle.delegates.proofs.same.Goals.{After-follow-x, After-follow-y}
use Rattle.delegates.proofs.same.Goals as goal

-- a successor's number is an index of the classes
x-within : (c : After-follow-x) → c.follow-x.result.0 ≤ 512
x-within c =
    let a = c.args in
    rw c.follow-x.ensures (follow_within a.next.now a.t.0 c.loop-a.a)

y-within : (c : After-follow-y) → c.follow-y.result.0 ≤ 512
y-within c =
    let a = c.args in
    rw c.follow-y.ensures (follow_within a.next.now a.s.0 c.loop-a.a)

pub returns-then-class-i : goal.returns-then-class-i
returns-then-class-i c = refuted (same_law c.args.sets.now c.args.next.now c.args.finals c.args.k c.args.class.now c.args.t.0 c.args.s.0) (λ x. c.if-class-i.true x.here)

pub returns-then-f-g : goal.returns-then-f-g
returns-then-f-g c =
    let f = c.is_final-f in
    let g = c.is_final-g in
    refuted (same_law c.args.sets.now c.args.next.now c.args.finals c.args.k c.args.class.now c.args.t.0 c.args.s.0) (λ x. differ f.result g.result c.if-f-g.true (f.ensures ∙ x.kind ∙ sym g.ensures))

pub loop-a-init : goal.loop-a-init
loop-a-init c =
    below_none _

pub offset_bounds-class-u : goal.offset_bounds-class-u
offset_bounds-class-u c = omega (arith, x-within (goal.at.offset_bounds-class-u c).After-follow-x)

pub bounds-class-u : goal.bounds-class-u
bounds-class-u c = omega (arith, x-within (goal.at.bounds-class-u c).After-follow-x)

pub offset_bounds-class-v : goal.offset_bounds-class-v
offset_bounds-class-v c = omega (arith, y-within (goal.at.offset_bounds-class-v c).After-follow-y)

pub bounds-class-v : goal.bounds-class-v
bounds-class-v c = omega (arith, y-within (goal.at.bounds-class-v c).After-follow-y)

pub returns-then-class-u : goal.returns-then-class-u
returns-then-class-u c =
    let l = c.loop-a in
    let a = c.args in
    refuted (same_law c.args.sets.now c.args.next.now c.args.finals c.args.k c.args.class.now c.args.t.0 c.args.s.0)
    (λ x.
    c.if-class-u.true
    (ap (class_of a.class.now) c.follow-x.ensures
    ∙ x.there l.a c.loop-a-test.true
    ∙ sym (ap (class_of a.class.now) c.follow-y.ensures)))

pub loop-a-preserved : goal.loop-a-preserved
loop-a-preserved c =
    let l = c.loop-a in
    let a = c.args in
    below_more _ _ l.invariant
    (sym (ap (class_of a.class.now) c.follow-x.ensures) ∙ c.if-class-u.false ∙ ap (class_of a.class.now) c.follow-y.ensures)

pub returns : goal.returns
returns c =
    let l = c.loop-a in
    let f = c.is_final-f in
    let g = c.is_final-g in
    confirmed (same_law c.args.sets.now c.args.next.now c.args.finals c.args.k c.args.class.now c.args.t.0 c.args.s.0)
    (record {
      here = c.if-class-i.false;
      kind = sym f.ensures ∙ agree f.result g.result c.if-f-g.false ∙ g.ensures;
      there = λ a h. l.invariant a (lt_of_lt_of_le h c.loop-a-test.false);
    })

-- `lowest` meets its contract. The loop's invariant: p is at most q, and the search from p on
-- finds what the whole search does. Assumes nothing.
use mathlib.Core.Path.{◌≡◌, sym, ap, ◌∙◌}
use mathlib.Core.Bool.{Bool}
use Prim.Native.Nat.{ℕ, ◌-◌}
use native.Mathlib.Omega.{arith}
use borrow.Author.Tests.{eq-eqb, ne_eqb}
use lib.Dec.{eqb}
use Rattle.delegates.specs.mirror.Classes.{first_from}
use Rattle.delegates.specs.mirror.Refinement.{class_of, first_in_class}
use Rattle.delegates.proofs.Tests.{first_here, first_past, first_end}
use Rattle.delegates.proofs.lowest.Goals as goal

pub loop-p-init : goal.loop-p-init
unfolding first_in_class
loop-p-init c =
    let a = c.args in
    let all : a.q.0 ≡ a.q.0 - 0 = omega arith in
    ap (first_from (λ u. eqb (class_of a.own.now u) (class_of a.own.now a.q.0)) 0) all

pub returns-then-own-i : goal.returns-then-own-i
returns-then-own-i c =
    let l = c.loop-p in
    let a = c.args in
    let test : ℕ → Bool = λ u. eqb (class_of a.own.now u) (class_of a.own.now a.q.0) in
    first_here test l.p a.q.0 (omega arith) (eq-eqb (class_of a.own.now l.p) (class_of a.own.now a.q.0) c.if-own-i.true) ∙ sym l.invariant

pub loop-p-preserved : goal.loop-p-preserved
loop-p-preserved c =
    let l = c.loop-p in
    let a = c.args in
    let test : ℕ → Bool = λ u. eqb (class_of a.own.now u) (class_of a.own.now a.q.0) in
    l.invariant ∙ first_past test l.p a.q.0 (omega arith) (ne_eqb (class_of a.own.now l.p) (class_of a.own.now a.q.0) c.if-own-i.false)

pub returns : goal.returns
returns c =
    let l = c.loop-p in
    let a = c.args in
    let test : ℕ → Bool = λ u. eqb (class_of a.own.now u) (class_of a.own.now a.q.0) in
    let e : a.q.0 ≡ l.p = omega arith in
    e ∙ first_end test l.p a.q.0 (omega arith) ∙ sym l.invariant

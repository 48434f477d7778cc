-- `least` meets its contract. The loop's invariant: the search from t on finds what the whole
-- search does. Assumes nothing.
use mathlib.Core.Path.{refl, sym, ◌∙◌}
use mathlib.Core.Bool.{Bool}
use Prim.Native.Nat.{ℕ}
use native.Mathlib.Omega.{arith}
use Rattle.delegates.specs.mirror.Refinement.{same_in, least_of}
use Rattle.delegates.proofs.Tests.{first_here, first_past, first_end}
use Rattle.delegates.proofs.least.Goals as goal

pub loop-t-init : goal.loop-t-init
unfolding least_of
loop-t-init c = refl

pub returns-then-same : goal.returns-then-same
returns-then-same c =
    let l = c.loop-t in
    let a = c.args in
    let test : ℕ → Bool = λ u. same_in a.sets.now a.next.now a.finals a.k a.class.now u a.s.0 in
    first_here test l.t a.s.0 (omega arith) (sym c.same.ensures ∙ c.if-same.true) ∙ sym l.invariant

pub loop-t-preserved : goal.loop-t-preserved
loop-t-preserved c =
    let l = c.loop-t in
    let a = c.args in
    let test : ℕ → Bool = λ u. same_in a.sets.now a.next.now a.finals a.k a.class.now u a.s.0 in
    l.invariant ∙ first_past test l.t a.s.0 (omega arith) (sym c.same.ensures ∙ c.if-same.false)

pub returns : goal.returns
returns c =
    let l = c.loop-t in
    let a = c.args in
    let test : ℕ → Bool = λ u. same_in a.sets.now a.next.now a.finals a.k a.class.now u a.s.0 in
    first_end test l.t a.s.0 (omega arith) ∙ sym l.invariant

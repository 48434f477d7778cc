-- `lowest` meets its contract. The loop's invariant: p is at most q, and the search from p on finds
-- what the whole search does. Assumes nothing.
use mathlib.Core.Path.{◌≡◌, sym, ap, ◌∙◌}
use mathlib.Core.Bool.{Bool, ◌&&◌}
use Prim.Native.Nat.{ℕ, ◌-◌}
use native.Mathlib.Omega.{arith}
use lib.Dec.{eqb}
use lib.ListN.{get_or}
use Rattle.masks.specs.Masks.{has}
use Rattle.delegates.specs.mirror.Classes.{first_from}
use Rattle.delegates.proofs.Tests.{first_here, first_past, first_end}
use Rattle.reduce.proofs.lowest.Goals as goal

pub loop-p-init : goal.loop-p-init
loop-p-init c =
    let a = c.args in
    let all : a.q.0 ≡ a.q.0 - 0 = omega arith in
    ap (first_from (λ u. has a.reached u && eqb (get_or a.delegates.now u 0) a.d) 0) all

pub returns-then-has_delegate : goal.returns-then-has_delegate
returns-then-has_delegate c =
    let l = c.loop-p in
    let a = c.args in
    let test : ℕ → Bool = λ u. has a.reached u && eqb (get_or a.delegates.now u 0) a.d in
    first_here test l.p a.q.0 (omega arith) (sym c.has_delegate.ensures ∙ c.if-has_delegate.true) ∙ sym l.invariant

pub loop-p-preserved : goal.loop-p-preserved
loop-p-preserved c =
    let l = c.loop-p in
    let a = c.args in
    let test : ℕ → Bool = λ u. has a.reached u && eqb (get_or a.delegates.now u 0) a.d in
    l.invariant ∙ first_past test l.p a.q.0 (omega arith) (sym c.has_delegate.ensures ∙ c.if-has_delegate.false)

pub returns : goal.returns
returns c =
    let l = c.loop-p in
    let a = c.args in
    let test : ℕ → Bool = λ u. has a.reached u && eqb (get_or a.delegates.now u 0) a.d in
    let e : a.q.0 ≡ l.p = omega arith in
    e ∙ first_end test l.p a.q.0 (omega arith) ∙ sym l.invariant

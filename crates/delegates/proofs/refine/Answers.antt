-- `refine` meets its contract. The loop's invariant: the classes are those by the texts shorter
-- than some f. The measure is how many of the 513 sets are not the lowest of their class: a round
-- that changes a class takes one. Assumes nothing.
use mathlib.Core.Path.{refl, sym, ap, ◌∙◌}
use mathlib.Core.List.{List}
use Prim.Native.Nat.{ℕ, suc}
use native.Mathlib.Omega.{arith}
use lib.ListN.{length, replicate}
use Rattle.base.proofs.Lists.{length_list_from, zero_cells}
use Rattle.delegates.specs.mirror.Refinement.{class_of, least_of}
use Rattle.delegates.proofs.Kept.{kept_most}
use Rattle.delegates.proofs.Classes.{started, after_round, rises, done}
use Rattle.delegates.proofs.refine.Goals as goal

pub loop-class-init : goal.loop-class-init
loop-class-init c =
    let a = c.args in
    (refl, (0, started a.sets.now a.next.now a.finals a.k (replicate 513 0) (zero_cells 513)))

pub round-changed-requires : goal.round-changed-requires
round-changed-requires c = c.requires

pub loop-class-smaller : goal.loop-class-smaller
loop-class-smaller c =
    let r = c.round-changed in
    let l = c.loop-class in
    let a = c.args in
    let new = r.new.new in
    omega (
      arith,
      rises a.sets.now a.next.now a.finals a.k l.invariant.1.0 l.class l.invariant.1.1 new r.ensures.0 (sym r.ensures.1 ∙ c.if-changed.true),
      kept_most (class_of new) 513,
    )

pub loop-class-preserved : goal.loop-class-preserved
loop-class-preserved c =
    let r = c.round-changed in
    let l = c.loop-class in
    let a = c.args in
    let least : ℕ → ℕ = least_of a.sets.now a.next.now a.finals a.k l.class in (
      ap (λ (x : List ℕ). length x) r.ensures.0 ∙ length_list_from 0 513 least,
      (suc l.invariant.1.0, after_round a.sets.now a.next.now a.finals a.k l.invariant.1.0 l.class l.invariant.1.1 r.new.new r.ensures.0),
    )

pub returns-else-changed : goal.returns-else-changed
returns-else-changed c =
    let r = c.round-changed in
    let l = c.loop-class in
    let a = c.args in
    done a.sets.now a.next.now a.finals a.k l.invariant.1.0 l.class l.invariant.1.1 r.new.new r.ensures.0 l.invariant.0 (sym r.ensures.1 ∙ c.if-changed.false)

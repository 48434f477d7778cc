-- `pairs_break` meets its contract. The loop's invariant: no pair before q breaks the rule, and
-- `due` is where section q has to begin. Assumes nothing.
use Rattle.base.proofs.Conditions.{none_yet, none_more}
use Rattle.ruleformat.proofs.Pairs.{bad_offset, bad_length, good_pair, pairs_at, pairs_end}
use Rattle.ruleformat.specs.Refusals.{due_at, bad_pair}
use Rattle.ruleformat.specs.Format.{state_count}
use lib.ListN.{length}
use lib.Dec.{eqb}
use native.Mathlib.Omega.{arith}
use native.Mathlib.Numerals.{add-one}
use Prim.Native.Nat.{ℕ, ◌+◌, ◌*◌, ◌%◌}
use mathlib.Core.Bool.{not}
use mathlib.Core.Path.{◌≡◌, sym, ap, ap₂, ◌∙◌}
use Rattle.rulefile.proofs.pairs_break.Goals as goal

pub loop-q-init : goal.loop-q-init
loop-q-init c =
    let e = c.byte-n.ensures in
    let f = c.args.file.now in
    let h = c.requires in
    (e.0, e.1, omega (arith, e.0, h.1), ap (λ (x : ℕ). 10 + 4 * x) e.0, none_yet (bad_pair f))

pub returns-then-offset-due : goal.returns-then-offset-due
returns-then-offset-due c =
    let x = c.loop-q in
    let f = c.args.file.now in
    let h = c.half-offset in
    sym
    (pairs_at f x.q (omega (arith, x.invariant.0))
    (bad_offset f x.q (λ e. c.if-offset-due.true (h.ensures.0 ∙ e ∙ sym x.invariant.3))))

pub returns-then-len-ne0 : goal.returns-then-len-ne0
returns-then-len-ne0 c =
    let x = c.loop-q in
    let f = c.args.file.now in
    let l = c.half-len in
    sym
    (pairs_at f x.q (omega (arith, x.invariant.0)) (bad_length f x.q (λ e. c.if-len-ne0.true (ap (λ (y : ℕ). y % 2) l.ensures.0 ∙ e))))

pub loop-q-preserved : goal.loop-q-preserved
loop-q-preserved c =
    let x = c.loop-q in
    let f = c.args.file.now in
    let h = c.half-offset in
    let l = c.half-len in (
      x.invariant.0,
      x.invariant.1,
      x.invariant.2,
      rw add-one (ap₂ (λ (y z : ℕ). y + z) h.ensures.0 l.ensures.0),
      none_more (bad_pair f) x.q x.invariant.4
          (good_pair f x.q (sym h.ensures.0 ∙ c.if-offset-due.false ∙ x.invariant.3) (ap (λ (y : ℕ). y % 2) (sym l.ensures.0) ∙ c.if-len-ne0.false)),
    )

pub returns : goal.returns
returns c =
    let x = c.loop-q in
    let f = c.args.file.now in
    let e : x.q ≡ state_count f = omega (arith, x.invariant.0) in
    sym
    (pairs_end f (rw e at x.invariant.4) ∙ ap (λ (y : ℕ). not (eqb y (length f))) (sym (x.invariant.3 ∙ ap (due_at f) e)))

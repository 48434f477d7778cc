-- `put_arc` meets its contract. Assumes nothing.
use Rattle.masks.specs.Masks.{has}
use mathlib.Core.Bool.{true, false}
use mathlib.Core.Path.{◌≡◌, sym, ◌∙◌}
use native.Mathlib.Omega.{arith}
use Rattle.text.proofs.Pieces.{wrote_none}
use Rattle.rulewriter.proofs.Parts.{both}
use Rattle.rulewriter.proofs.put_arc.Goals as goal

pub put_byte-a-requires : goal.put_byte-a-requires
put_byte-a-requires c =
    let e : has c.args.mask c.args.t.0 ≡ true = sym c.member.ensures ∙ c.if-member.true in
    omega (arith, rw e at c.requires.1)

pub put_byte-requires : goal.put_byte-requires
put_byte-requires c =
    let e : has c.args.mask c.args.t.0 ≡ true = sym c.member.ensures ∙ c.if-member.true in
    let w = c.put_byte-a in
    omega (arith, rw e at c.requires.1, w.ensures.ends, w.auto.out)

pub returns-then-member : goal.returns-then-member
returns-then-member c =
    let e : has c.args.mask c.args.t.0 ≡ true = sym c.member.ensures ∙ c.if-member.true in
    rw e (both (rw e at c.requires.1) c.put_byte-a.ensures (λ _. c.put_byte.ensures))

pub returns-else-member : goal.returns-else-member
returns-else-member c =
    let e : has c.args.mask c.args.t.0 ≡ false = sym c.member.ensures ∙ c.if-member.false in
    rw e (wrote_none c.args.out.now c.args.at)

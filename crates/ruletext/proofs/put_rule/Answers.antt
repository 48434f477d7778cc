-- `put_rule` meets its contract. Assumes nothing.
use native.Mathlib.Omega.{arith}
use Rattle.ruletext.proofs.Joining.{whole}
use Rattle.ruletext.proofs.Lengths.{lines_most}
use Rattle.ruletext.proofs.put_rule.Goals as goal

pub put_sets-last-requires : goal.put_sets-last-requires
put_sets-last-requires c =
    let h = c.put_head-lines in
    let e = c.min-count in
    (omega (arith, c.min-k.ensures), omega (arith, e.ensures), omega (arith, c.requires, h.ensures.1, h.auto.out, e.ensures))

pub put_delegates-requires : goal.put_delegates-requires
put_delegates-requires c =
    let h = c.put_head-lines in
    let v = c.put_sets-last in
    let b = c.args.built in
    let e = c.min-count in
    let k = c.min-k in
    let l = lines_most b.sets b.next k.result (omega (arith, k.ensures)) e.result (omega (arith, e.ensures)) in
    (omega (arith, c.min-n.ensures), omega (arith, c.requires, h.ensures.1, h.auto.out, v.ensures.ends, v.auto.out, l, e.ensures))

pub returns : goal.returns
returns c =
    let e = c.min-count in
    let k = c.min-k in
    let n = c.min-n in
    whole c.args.built e.result k.result n.result e.ensures k.ensures n.ensures c.requires
    c.put_head-lines.ensures
    c.put_sets-last.ensures
    c.put_delegates.ensures

-- `build_rule` meets its contract. Assumes nothing.
use native.Mathlib.Omega.{arith}
use Rattle.build.proofs.Numbered.{at_most_512, whole, too_many_lem}
use Rattle.build.proofs.build_rule.Goals as goal

pub overflow_cast-result : goal.overflow_cast-result
overflow_cast-result c =
    let t = c.number_sets in
    let r = c.args.rule in
    omega (arith, at_most_512 r.targets r.n r.k t.result t.ensures c.in-Some.table c.in-Some.is)

pub returns : goal.returns
returns c =
    let t = c.number_sets in
    let m = c.merge_starts-merged in
    whole c.args.rule t.result t.ensures c.in-Some.table c.in-Some.is m.result m.ensures _ _ c.min.ensures c.min-2.ensures

pub returns-in_default : goal.returns-in_default
returns-in_default c =
    let t = c.number_sets in too_many_lem c.args.rule t.result t.ensures (cc)

-- `merge_files` meets its contract. Assumes nothing.
use Rattle.std.proofs.lemmas.Result.{err_from_is_err_and}
use Rattle.mergetext.proofs.Ways.{read_rule, read_refused, merged_first, merged_second, merged_answered, merged_passes}
use Rattle.mergetext.proofs.merge_files.Goals as goal

pub returns-in_err-first-clause-answered : goal.returns-in_err-first-clause-answered
returns-in_err-first-clause-answered c =
    let a = c.args in
    let p = err_from_is_err_and c.from_residual.result c.from_residual.ensures.1 in
    rw (p.1, p.2) (merged_first a.way a.one.now a.two.now c.in_err-first.field-0.0 (read_refused a.one.now c.in_err-first.field-0.0 c.in_err-first.ensures))

pub returns-in_err-second-clause-answered : goal.returns-in_err-second-clause-answered
returns-in_err-second-clause-answered c =
    let a = c.args in
    let r = c.from_residual-in_err-second in
    let p = err_from_is_err_and r.result r.ensures.1 in
    let one = read_rule a.one.now c.in_ok-first.first c.in_ok-first.ensures in
    rw (p.1, p.2) (merged_second a.way a.one.now a.two.now one.0 c.in_err-second.field-0.0 (read_refused a.two.now c.in_err-second.field-0.0 c.in_err-second.ensures))

pub returns-clause-answered : goal.returns-clause-answered
returns-clause-answered c =
    let a = c.args in
    let one = read_rule a.one.now c.in_ok-first.first c.in_ok-first.ensures in
    let two = read_rule a.two.now c.in_ok-second.second c.in_ok-second.ensures in
    merged_answered a.way a.one.now a.two.now one.0 two.0 _ _ one.1 two.1 c.merge.result c.merge.ensures

pub returns-clause-passes : goal.returns-clause-passes
returns-clause-passes c =
    let a = c.args in
    let one = read_rule a.one.now c.in_ok-first.first c.in_ok-first.ensures in
    let two = read_rule a.two.now c.in_ok-second.second c.in_ok-second.ensures in
    merged_passes a.way a.one.now a.two.now one.0 two.0 _ _ one.1 two.1 c.merge.result c.merge.ensures

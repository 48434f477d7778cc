-- `reduce` meets its contract. Assumes nothing.
use Rattle.std.proofs.Common.{sym}
use Rattle.std.proofs.lemmas.Result.{err_from_is_err_and}
use Rattle.reduce.proofs.Ways.{refused_check, refused_build_lem, accepted_build}
use Rattle.reduce.proofs.reduce.Goals as goal

pub returns-in_err-check_rule : goal.returns-in_err-check_rule
returns-in_err-check_rule c =
    let p = err_from_is_err_and c.from_residual.result c.from_residual.ensures.1 in
    rw (p.1, p.2) (refused_check c.args.rule c.in_err-check_rule.field-0.0 (sym c.in_err-check_rule.ensures))

pub returns-in_err-built : goal.returns-in_err-built
returns-in_err-built c =
    let r = c.from_residual-in_err-built in
    let p = err_from_is_err_and r.result r.ensures.1 in
    rw (p.1, p.2) (refused_build_lem c.args.rule (sym c.in_ok-check_rule.ensures) c.in_err-built.field-0.0 c.in_err-built.ensures)

pub returns : goal.returns
returns c =
    accepted_build c.args.rule (sym c.in_ok-check_rule.ensures) c.in_ok-built.built c.list_of-list.result _ _
    c.in_ok-built.ensures c.list_of-list.ensures c.reduced-made.ensures c.few_sets.ensures

-- `answer_to` meets its contract. Assumes nothing.
use Rattle.std.proofs.lemmas.Result.{err_from_is_err_and}
use Rattle.trays.proofs.Ways.{unchecked, unbuilt, built}
use Rattle.traycalls.proofs.answer_to.Goals as goal

pub returns-in_err-check_rule : goal.returns-in_err-check_rule
returns-in_err-check_rule c =
    let p = err_from_is_err_and c.from_residual.result c.from_residual.ensures.1 in
    rw (p.1, p.2) (unchecked c.args.rule c.in_err-check_rule.field-0.0 c.in_err-check_rule.ensures)

pub returns-in_err-built : goal.returns-in_err-built
returns-in_err-built c =
    let r = c.from_residual-in_err-built in
    let p = err_from_is_err_and r.result r.ensures.1 in
    rw (p.1, p.2) (unbuilt c.args.rule c.in_ok-check_rule.ensures c.in_err-built.field-0.0 c.in_err-built.ensures)

pub returns : goal.returns
returns c = built c.args.rule c.in_ok-check_rule.ensures _ c.in_ok-built.ensures

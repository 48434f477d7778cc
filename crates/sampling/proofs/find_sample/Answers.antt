-- `find_sample` meets its contract: the check refuses the rule, or it is searched. Assumes nothing.
use Rattle.std.proofs.Common.{sym}
use Rattle.std.proofs.lemmas.Result.{err_from_is_err_and}
use Rattle.rulecheck.proofs.Claims as check
use Rattle.sampling.proofs.Ways.{find_refused}
use Rattle.sampling.proofs.find_sample.Goals as goal

pub search_sets-requires : goal.search_sets-requires
search_sets-requires c = ((check.claims).passes c.args.rule).0 (sym c.in_ok-check_rule.ensures)

pub returns-in_err-check_rule : goal.returns-in_err-check_rule
returns-in_err-check_rule c =
    let p = err_from_is_err_and c.from_residual.result c.from_residual.ensures.1 in
    rw (p.1, p.2) (find_refused c.args.rule c.args.wish c.in_err-check_rule.field-0.0 (sym c.in_err-check_rule.ensures))

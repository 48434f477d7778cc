-- `merge` meets its contract. Assumes nothing.
use Rattle.std.proofs.Common.{sym}
use Rattle.std.proofs.lemmas.Result.{err_from_is_err_and}
use Rattle.merge.proofs.Ways.{merge_allowed, merge_accepted, merge_refused}
use Rattle.merge.proofs.merge.Goals as goal

pub merged-requires : goal.merged-requires
merged-requires c = merge_allowed c.args.way c.args.one c.args.two (sym c.in_ok-check.ensures)

pub returns-in_err-check : goal.returns-in_err-check
returns-in_err-check c =
    let p = err_from_is_err_and c.from_residual.result c.from_residual.ensures.1 in
    rw (p.1, p.2) (merge_refused c.args.way c.args.one c.args.two c.in_err-check.field-0.0 (sym c.in_err-check.ensures))

pub returns : goal.returns
returns c = merge_accepted c.args.way c.args.one c.args.two (sym c.in_ok-check.ensures) _ c.merged.ensures

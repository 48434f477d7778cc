-- `prepare_file` meets its contract. Assumes nothing.
use Rattle.std.proofs.lemmas.Result.{err_from_is_err_and}
use Rattle.followcalls.proofs.Ways.{unread, was_read}
use Rattle.followcalls.proofs.prepare_file.Goals as goal

pub returns-in_err-rule : goal.returns-in_err-rule
returns-in_err-rule c =
    let p = err_from_is_err_and c.from_residual.result c.from_residual.ensures.1 in
    rw (p.1, p.2) (unread c.args.file.now c.in_err-rule.field-0.0 c.in_err-rule.ensures)

pub returns : goal.returns
returns c = was_read c.args.file.now _ c.in_ok-rule.ensures _ c.prepare.ensures

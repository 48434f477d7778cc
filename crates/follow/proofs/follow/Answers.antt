-- `follow` meets its contract: the rule is refused by its check, or the chunk is followed. Assumes nothing.
use Rattle.std.proofs.Common.{sym, ◌∙◌}
use Rattle.std.proofs.lemmas.Result.{err_from_is_err_and}
use Rattle.follow.proofs.Ways.{unchecked, checked}
use Rattle.follow.proofs.follow.Goals as goal

pub returns-in_err-check_rule : goal.returns-in_err-check_rule
returns-in_err-check_rule c =
    let a = c.args in
    let p = err_from_is_err_and c.from_residual.result c.from_residual.ensures.1 in
    rw (p.1, p.2) (unchecked a.rule a.set a.chunk.now _ (sym c.in_err-check_rule.ensures))

pub returns : goal.returns
returns c =
    let a = c.args in
    let live = c.live_states-live in
    c.follow_lent.ensures
    ∙ checked a.rule a.set a.chunk.now (sym c.in_ok-check_rule.ensures) live.result live.ensures

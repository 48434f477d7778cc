-- `merge_reduced` meets its contract. Assumes nothing.
use Rattle.std.proofs.Common.{sym}
use Rattle.std.proofs.lemmas.Result.{err_from_is_err_and}
use Rattle.mergereduced.proofs.Ways.{reduced_first, reduced_second, reduced_36, reduced_good, reduced_made}
use Rattle.mergereduced.proofs.merge_reduced.Goals as goal

pub returns-in_err-check_rule : goal.returns-in_err-check_rule
returns-in_err-check_rule c =
    let a = c.args in
    let p = err_from_is_err_and c.from_residual.result c.from_residual.ensures.1 in
    rw (p.1, p.2) (reduced_first a.way a.one a.two c.in_err-check_rule.field-0.0 (sym c.in_err-check_rule.ensures))

pub returns-in_err-check_rule-2 : goal.returns-in_err-check_rule-2
returns-in_err-check_rule-2 c =
    let a = c.args in
    let r = c.from_residual-in_err-check_rule-2 in
    let p = err_from_is_err_and r.result r.ensures.1 in
    rw (p.1, p.2) (reduced_second a.way a.one a.two (sym c.in_ok-check_rule.ensures) c.in_err-check_rule-2.field-0.0 (sym c.in_err-check_rule-2.ensures))

pub returns-then-one-two : goal.returns-then-one-two
returns-then-one-two c =
    let a = c.args in
    reduced_36 a.way a.one a.two (sym c.in_ok-check_rule.ensures) (sym c.in_ok-check_rule-2.ensures) c.if-one-two.true

pub paired-requires : goal.paired-requires
paired-requires c =
    let a = c.args in (
      reduced_good a.one c.reduced_or_own-a.result c.reduced_or_own-a.ensures (sym c.in_ok-check_rule.ensures),
      reduced_good a.two c.reduced_or_own-b.result c.reduced_or_own-b.ensures (sym c.in_ok-check_rule-2.ensures),
    )

pub returns : goal.returns
returns c =
    let a = c.args in
    reduced_made a.way a.one a.two (sym c.in_ok-check_rule.ensures) (sym c.in_ok-check_rule-2.ensures) c.if-one-two.false
    c.reduced_or_own-a.result c.reduced_or_own-b.result c.reduced_or_own-a.ensures c.reduced_or_own-b.ensures
    _ c.paired.ensures

-- `check` meets its contract. Assumes nothing.
use borrow.Author.Rules.{rules}
use Rattle.std.proofs.Common.{sym}
use Rattle.std.proofs.lemmas.Result.{err_from_is_err_and}
use Rattle.merge.proofs.Ways.{check_first, check_second, small_both, check_36, check_37, check_none}
use Rattle.merge.proofs.check.Goals as goal

pub returns-in_err-check_rule : goal.returns-in_err-check_rule
returns-in_err-check_rule c =
    let a = c.args in
    let p = err_from_is_err_and c.from_residual.result c.from_residual.ensures.1 in
    rw (p.1, p.2) (check_first a.way a.one a.two _ (sym c.in_err-check_rule.ensures))

pub returns-in_err-check_rule-2 : goal.returns-in_err-check_rule-2
returns-in_err-check_rule-2 c =
    let a = c.args in
    let r = c.from_residual-in_err-check_rule-2 in
    let p = err_from_is_err_and r.result r.ensures.1 in
    rw (p.1, p.2) (check_second a.way a.one a.two (sym c.in_ok-check_rule.ensures) _ (sym c.in_err-check_rule-2.ensures))

pub returns-then-one-two : goal.returns-then-one-two
returns-then-one-two c = search (rules, check_36)

pub states-requires : goal.states-requires
states-requires c =
    let a = c.args in
    small_both a.way a.one a.two (sym c.in_ok-check_rule.ensures) (sym c.in_ok-check_rule-2.ensures)

pub returns-then-states-gt-STATES : goal.returns-then-states-gt-STATES
returns-then-states-gt-STATES c = search (rules, check_37)

pub returns : goal.returns
returns c =
    let a = c.args in
    check_none a.way a.one a.two (sym c.in_ok-check_rule.ensures) (sym c.in_ok-check_rule-2.ensures) c.if-one-two.false
    c.states.result c.states.ensures c.if-states-gt-STATES.false

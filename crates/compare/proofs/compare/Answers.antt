-- `compare` meets its contract: the first rule is refused, the second, the two, or they are searched.
-- Assumes nothing.
use Rattle.std.proofs.Common.{sym}
use Rattle.std.proofs.lemmas.Result.{err_from_is_err_and}
use Rattle.compare.proofs.Ways.{compare_first, compare_second, compare_36, compare_both}
use Rattle.compare.proofs.compare.Goals as goal

pub returns-in_err-check_rule : goal.returns-in_err-check_rule
returns-in_err-check_rule c =
    let p = err_from_is_err_and c.from_residual.result c.from_residual.ensures.1 in
    rw (p.1, p.2) (compare_first c.args.one c.args.two c.in_err-check_rule.field-0.0 (sym c.in_err-check_rule.ensures))

pub returns-in_err-check_rule-2 : goal.returns-in_err-check_rule-2
returns-in_err-check_rule-2 c =
    let p = err_from_is_err_and c.from_residual-in_err-check_rule-2.result c.from_residual-in_err-check_rule-2.ensures.1 in
    rw (p.1, p.2) (compare_second c.args.one c.args.two (sym c.in_ok-check_rule.ensures) c.in_err-check_rule-2.field-0.0 (sym c.in_err-check_rule-2.ensures))

pub returns-then-one-two : goal.returns-then-one-two
returns-then-one-two c =
    compare_36 c.args.one c.args.two (sym c.in_ok-check_rule.ensures) (sym c.in_ok-check_rule-2.ensures) c.if-one-two.true

pub search_pairs-requires : goal.search_pairs-requires
search_pairs-requires c =
    let both = compare_both c.args.one c.args.two (sym c.in_ok-check_rule.ensures) (sym c.in_ok-check_rule-2.ensures) in
    (both.0, both.1, c.if-one-two.false)

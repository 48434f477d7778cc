-- `build` meets its contract: each way out by its lemma. Assumes nothing.
use mathlib.Core.Path.{sym}
use borrow.Author.Rules.{rules}
use Rattle.rulecheck.proofs.Claims as check
use Rattle.profile.proofs.Ways.{build_unchecked, build_33}
use Rattle.profile.proofs.build.Goals as goal

pub returns-then-rule-gt-STATES : goal.returns-then-rule-gt-STATES
returns-then-rule-gt-STATES c = build_33 c.args.rule (sym c.in_ok-check_rule.ensures) c.if-rule-gt-STATES.true

pub build_small-requires : goal.build_small-requires
build_small-requires c =
    record {
      good = ((check.claims).passes c.args.rule).0 (sym c.in_ok-check_rule.ensures);
      states = c.if-rule-gt-STATES.false;
    }

pub returns-in_err-check_rule : goal.returns-in_err-check_rule
returns-in_err-check_rule c =
    let e = build_unchecked c.args.rule _ (sym c.in_err-check_rule.ensures) in search (rules, e)

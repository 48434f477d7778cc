-- `make_form` meets its contract. Assumes nothing.
use borrow.Author.Rules.{rules}
use Rattle.formmaker.proofs.Making.{made, no_rule_lem}
use Rattle.formmaker.proofs.make_form.Goals as goal

pub returns-then-built-eq0 : goal.returns-then-built-eq0
returns-then-built-eq0 c = search (rules, no_rule_lem)

pub returns : goal.returns
returns c = search (rules, made)

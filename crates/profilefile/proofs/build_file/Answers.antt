-- `build_file` meets its contract. Assumes nothing.
use mathlib.Core.Path.{◌∙◌}
use borrow.Author.Rules.{rules}
use Rattle.profilefile.proofs.Ways.{unread, built}
use Rattle.profilefile.proofs.build_file.Goals as goal

pub returns : goal.returns
returns c = c.build.ensures ∙ built c.args.file.now _ c.in_ok-rule.ensures

pub returns-in_err-rule : goal.returns-in_err-rule
returns-in_err-rule c = let e = unread c.args.file.now _ c.in_err-rule.ensures in search (rules, e)

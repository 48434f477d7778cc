-- `form_in` meets its contract. Assumes nothing.
use mathlib.Core.Path.{◌∙◌}
use borrow.Author.Rules.{rules}
use Rattle.formfile.proofs.Ways.{unread, made}
use Rattle.formfile.proofs.form_in.Goals as goal

pub returns : goal.returns
returns c = c.make_form.ensures ∙ made _ c.args.file.now c.load-loaded.result c.load-loaded.ensures _ c.in_ok-loaded.was

pub returns-in_err-loaded : goal.returns-in_err-loaded
returns-in_err-loaded c =
    let e = unread _ c.args.file.now c.load-loaded.result c.load-loaded.ensures _ c.in_err-loaded.was in search (rules, e)

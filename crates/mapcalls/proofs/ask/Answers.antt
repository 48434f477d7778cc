-- `ask` meets its contract. Assumes nothing.
use mathlib.Core.Path.{sym, ◌∙◌}
use Rattle.mapcalls.proofs.Ways.{ask_lacks, asked}
use Rattle.mapcalls.proofs.ask.Goals as goal

pub returns-in_default : goal.returns-in_default
returns-in_default c = ask_lacks c.args.state.now c.args.mapping.masks (cc)

pub returns-then-says_yes : goal.returns-then-says_yes
returns-then-says_yes c =
    asked c.args.state.now c.args.mapping.masks c.in-Some.profile c.in-Some.is _ (sym c.if-says_yes.true ∙ c.says_yes.ensures)

pub returns : goal.returns
returns c =
    asked c.args.state.now c.args.mapping.masks c.in-Some.profile c.in-Some.is _ (sym c.if-says_yes.false ∙ c.says_yes.ensures)

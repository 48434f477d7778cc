-- `install_row` meets its contract. Assumes nothing.
use mathlib.Core.Path.{ap, ◌∙◌}
use Rattle.trays.specs.mirror.Steps.{install_of, install_row_of}
use borrow.Author.Rules.{rules}
use Rattle.traycalls.proofs.install_row.Goals as goal

pub returns : goal.returns
unfolding install_row_of
returns c =
    let a = c.args in
    c.install.ensures ∙ ap (install_of a.tray a.rule) c.with_row.ensures

pub with_row-requires : goal.with_row-requires
with_row-requires = (search rules)

pub install-requires : goal.install-requires
install-requires = (search rules)

-- `install_column` meets its contract. Assumes nothing.
use mathlib.Core.Path.{ap, ◌∙◌}
use Rattle.trays.specs.mirror.Steps.{install_of, install_column_of}
use borrow.Author.Rules.{rules}
use Rattle.traycalls.proofs.install_column.Goals as goal

pub returns : goal.returns
unfolding install_column_of
returns c =
    let a = c.args in
    c.install.ensures ∙ ap (install_of a.tray a.rule) c.with_column.ensures

pub with_column-requires : goal.with_column-requires
with_column-requires = (search rules)

pub install-requires : goal.install-requires
install-requires = (search rules)

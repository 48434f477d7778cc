-- `bellbadger_merge` meets its contract. Assumes nothing.
use mathlib.Core.Path.{ap, ◌∙◌}
use Rattle.merging.specs.declared.Way.{Way}
use Rattle.merging.specs.Merging.{merge_of}
use Rattle.c_merge.specs.Numbers.{merge_shown}
use Rattle.c_merge.proofs.bellbadger_merge.Goals as goal

pub returns : goal.returns
returns c =
    let a = c.args in
    c.in_numbers.ensures
    ∙ ap merge_shown (c.merge.ensures ∙ ap (λ (w : Way). merge_of w a.one a.two) c.way_of.ensures)

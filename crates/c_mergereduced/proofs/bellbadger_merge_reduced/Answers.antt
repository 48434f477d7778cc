-- `bellbadger_merge_reduced` meets its contract. Assumes nothing.
use mathlib.Core.Path.{ap, ◌∙◌}
use Rattle.merging.specs.declared.Way.{Way}
use Rattle.mergereduce.specs.MergeReduced.{merge_reduced_of}
use Rattle.c_merge.specs.Numbers.{merge_shown}
use Rattle.c_mergereduced.proofs.bellbadger_merge_reduced.Goals as goal

pub returns : goal.returns
returns c =
    let a = c.args in
    c.in_numbers.ensures
    ∙ ap merge_shown (c.merge_reduced.ensures ∙ ap (λ (w : Way). merge_reduced_of w a.one a.two) c.way_of.ensures)

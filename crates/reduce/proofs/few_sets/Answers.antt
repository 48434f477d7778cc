-- `few_sets` meets its contract. Assumes nothing.
use mathlib.Core.Path.{refl, ◌∙◌}
use Rattle.reduce.proofs.Ways.{sets_few}
use Rattle.reduce.proofs.few_sets.Goals as goal

pub returns : goal.returns
returns c =
    let r = c.args.rule in
    c.is_some.ensures ∙ sets_few r.targets r.n r.k c.number_sets.result c.number_sets.ensures c.number_sets.result refl

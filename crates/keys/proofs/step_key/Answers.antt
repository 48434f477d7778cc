-- `step_key` meets its contract, kind by kind. Assumes nothing.
use mathlib.Core.Path.{sym, ap, ◌∙◌}
use Rattle.keys.specs.declared.Kind.{Kind}
use Rattle.keys.specs.Kinds.{step_by}
use Rattle.keys.proofs.step_key.Goals as goal

pub returns-in-Sets : goal.returns-in-Sets
returns-in-Sets c =
    let a = c.args in
    c.step_set.ensures ∙ sym (ap (λ (x : Kind). step_by x a.targets.now a.others.now a.key a.symbol) c.in-Sets.is)

pub returns-in-Mappings : goal.returns-in-Mappings
returns-in-Mappings c =
    let a = c.args in
    c.step.ensures ∙ sym (ap (λ (x : Kind). step_by x a.targets.now a.others.now a.key a.symbol) c.in-Mappings.is)

pub returns-in-Pairs : goal.returns-in-Pairs
returns-in-Pairs c =
    let a = c.args in
    c.step_pair.ensures ∙ sym (ap (λ (x : Kind). step_by x a.targets.now a.others.now a.key a.symbol) c.in-Pairs.is)

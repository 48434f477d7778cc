-- `read_rule` meets its contract. Assumes nothing.
use Rattle.patternreader.specs.Rules.{rule_from}
use Rattle.patternreader.specs.Reader.{commit_of, bar_of}
use Rattle.patternreader.specs.declared.Reading.{Reading}
use mathlib.Core.Path.{ap, ◌∙◌}
use Rattle.patternreader.proofs.read_rule.Goals as goal

pub returns : goal.returns
returns c =
    let read = c.read_all-read.ensures in
    let committed = c.commit.ensures in
    c.rule_from.ensures
    ∙ ap (λ (r : Reading). rule_from r) c.read_bar-whole.ensures
    ∙ ap (λ (r : Reading). rule_from (bar_of r)) committed
    ∙ ap (λ (r : Reading). rule_from (bar_of (commit_of r))) read

-- `is_final` meets its contract. Assumes nothing.
use mathlib.Core.Path.{sym, ◌∙◌}
use Rattle.delegates.proofs.Classes.{final_set, final_empty}
use Rattle.delegates.proofs.is_final.Goals as goal

pub returns-then-s-lt-SETS : goal.returns-then-s-lt-SETS
returns-then-s-lt-SETS c =
    let a = c.args in
    c.meets.ensures ∙ sym (final_set a.sets.now a.finals a.set.0 c.if-s-lt-SETS.true)

pub returns-else-s-lt-SETS : goal.returns-else-s-lt-SETS
returns-else-s-lt-SETS c =
    let a = c.args in
    sym (final_empty a.sets.now a.finals a.set.0 c.if-s-lt-SETS.false)

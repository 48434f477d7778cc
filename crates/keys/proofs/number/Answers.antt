-- `number` meets its contract, one way out at a time: the key has a number, it takes the next, or
-- none is left. Assumes nothing.
use mathlib.Core.Path.{refl, sym, ap, ◌∙◌}
use Rattle.numbering.proofs.Arrays.{entered_kept, entered_taken, entered_full}
use Rattle.keys.specs.Kinds.{nothing}
use Rattle.keys.specs.mirror.Steps.{found_means}
use Rattle.keys.proofs.number.Goals as goal

pub returns-in-Some : goal.returns-in-Some
returns-in-Some c =
    let a = c.args in
    entered_kept a.keys.now a.count c.requires.0 c.requires.1 nothing a.key refl c.in-Some.number.0
    (sym c.find.ensures ∙ ap found_means c.in-Some.is)

pub returns-then-count-lt-SETS : goal.returns-then-count-lt-SETS
returns-then-count-lt-SETS c =
    let a = c.args in
    entered_taken a.keys.now a.count c.requires.0 c.requires.1 nothing a.key refl
    (sym c.find.ensures ∙ ap found_means c.in-None.is) c.if-count-lt-SETS.true

pub returns-else-count-lt-SETS : goal.returns-else-count-lt-SETS
returns-else-count-lt-SETS c =
    let a = c.args in
    entered_full a.keys.now a.count c.requires.0 c.requires.1 nothing a.key refl
    (sym c.find.ensures ∙ ap found_means c.in-None.is) c.if-count-lt-SETS.false

-- `add` meets its contract: once the key has its turn the arrays hold what `expand` asks for.
-- Assumes nothing.
use mathlib.Core.Path.{ap}
use Rattle.numbering.proofs.Turns.{seed_asked, seed_added, seed_over}
use Rattle.keys.specs.Kinds.{free_by, walk_in}
use Rattle.keys.specs.mirror.Steps.{turn_means}
use Rattle.keys.proofs.add.Goals as goal

pub number-requires : goal.number-requires
number-requires c = (c.requires.count_le_most_sets.0, c.requires.count_le_most_sets.2.keys_are)

pub expand-requires : goal.expand-requires
expand-requires c =
    let a = c.args in
    let w = c.number in
    record { from_le_most_sets = seed_asked (walk_in a.kind a.omit a.targets.now a.others.now a.k) (free_by a.omit) a.keys.now a.next.now a.count a.key c.requires.count_le_most_sets.0 c.requires.count_le_most_sets.2 c.requires.count_le_most_sets.1 (turn_means w.result) w.new.keys w.ensures _ c.in_ok-after.after (ap turn_means c.in_ok-after.was); in_row = c.requires.in_row }

pub returns : goal.returns
returns c =
    let a = c.args in
    let w = c.number in
    seed_added (walk_in a.kind a.omit a.targets.now a.others.now a.k) (free_by a.omit) a.keys.now a.next.now a.count a.key c.requires.count_le_most_sets.0 c.requires.count_le_most_sets.2 c.requires.count_le_most_sets.1 (turn_means w.result) w.new.keys w.ensures _ c.in_ok-after.after (ap turn_means c.in_ok-after.was) c.expand.ensures

pub returns-in_err-after : goal.returns-in_err-after
returns-in_err-after c =
    let a = c.args in
    let w = c.number in
    rw c.from_residual.ensures
    (seed_over (walk_in a.kind a.omit a.targets.now a.others.now a.k) (free_by a.omit) a.keys.now a.next.now a.count a.key c.requires.count_le_most_sets.0 c.requires.count_le_most_sets.2 c.requires.count_le_most_sets.1 (turn_means w.result) w.new.keys w.ensures a.next.now (ap turn_means c.in_err-after.was))

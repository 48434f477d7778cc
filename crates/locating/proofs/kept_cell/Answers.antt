-- `kept_cell` meets its contract. Assumes nothing.
use mathlib.Core.Path.{sym, ◌∙◌}
use Rattle.locating.proofs.Pruning.{cell_kept, cell_dropped}
use Rattle.locating.proofs.kept_cell.Goals as goal

pub returns-then-meets : goal.returns-then-meets
returns-then-meets c = let a = c.args in cell_kept a.sets.now a.live a.cell _ c.mask_of.ensures (sym c.meets.ensures ∙ c.if-meets.true)

pub returns-else-meets : goal.returns-else-meets
returns-else-meets c = let a = c.args in cell_dropped a.sets.now a.live a.cell _ c.mask_of.ensures (sym c.meets.ensures ∙ c.if-meets.false)

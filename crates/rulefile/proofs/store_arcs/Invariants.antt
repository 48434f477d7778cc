-- `store_arcs` meets its contract. The loop's invariant: each cell is what it was, with, in the row
-- of state q, the targets of the first i arcs. Assumes nothing.
use Rattle.ruleformat.proofs.Tables.{cell_after}
use Rattle.ruleformat.specs.Refusals.{bad_section}
use lib.ListN.{length, get_or}
use Prim.Native.Nat.{ℕ, ◌*◌, ◌/◌, ◌<◌}
use mathlib.Core.Bool.{false}
use mathlib.Core.Path.{◌≡◌}
use Rattle.rulefile.proofs.store_arcs.Given as goal

abbrev pub invariant-loop-i : goal.invariant-loop-i
invariant-loop-i l =
    (l.row ≡ 16 * (l.row / 16)) × (l.row / 16 < 32) × (length l.targets ≡ 512) × (bad_section 32 16 l.section ≡ false)
    × ((cell : ℕ) → get_or l.targets cell 0 ≡ cell_after l.initial.targets l.section (l.row / 16) l.i cell)

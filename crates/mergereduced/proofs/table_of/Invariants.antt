-- `table_of` meets its contract: the cells below `cell` are those of the result. Assumes nothing.
use mathlib.Core.Path.{◌≡◌}
use Prim.Native.Nat.{ℕ, ◌<◌}
use lib.ListN.{length, get_or}
use Rattle.merging.specs.Merged.{targets_of}
use Rattle.mergereduced.specs.mirror.Asked.{cell_in}
use Rattle.mergereduced.proofs.table_of.Given as goal

abbrev pub invariant-loop-cell : goal.invariant-loop-cell
invariant-loop-cell l =
    (length l.mask-items ≡ 512) × ((i : ℕ) → i < l.cell → get_or l.mask-items i 0 ≡ cell_in (targets_of l.way l.n1 l.n2 l.t1 l.t2) l.list l.c i)

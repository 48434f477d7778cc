-- `unpack` meets its contract. The loop's invariant: the cells passed are the words at their places.
-- Assumes nothing.
use mathlib.Core.Path.{◌≡◌}
use Prim.Native.Nat.{ℕ, ◌+◌, ◌*◌, ◌≤◌, ◌<◌}
use lib.ListN.{length, get_or}
use Rattle.ruleformat.specs.Format.{word_at}
use Rattle.packed.proofs.unpack.Given as goal

abbrev pub invariant-loop-cell : goal.invariant-loop-cell
invariant-loop-cell l =
    (l.cell ≤ 512) × (length l.bytes ≡ 2058) × (length l.target-items ≡ 512)
    × ((i : ℕ) → i < l.cell → get_or l.target-items i 0 ≡ word_at l.bytes (10 + 4 * i))

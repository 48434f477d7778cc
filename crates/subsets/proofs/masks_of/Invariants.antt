-- `masks_of` meets its contract: the lower halves of the sets before i are stored. Assumes nothing.
use mathlib.Core.Path.{◌≡◌}
use Prim.Native.Nat.{ℕ, ◌%◌, ◌^◌, ◌≤◌, ◌<◌}
use lib.ListN.{length, get_or}
use Rattle.subsets.proofs.masks_of.Given as goal

abbrev pub invariant-loop-i : goal.invariant-loop-i
invariant-loop-i l = (l.i ≤ 512) × (length l.mask-items ≡ 512) × ((j : ℕ) → j < l.i → get_or l.mask-items j 0 ≡ get_or l.sets j 0 % 2 ^ 32)

-- `linked` meets its contract: the masks of the positions before i are stored. Assumes nothing.
use mathlib.Core.Path.{◌≡◌}
use mathlib.Core.Bool.{cond}
use Prim.Native.Nat.{ℕ, ◌≤◌, ◌<◌}
use lib.ListN.{length, get_or}
use lib.Bits.{bit_or}
use Rattle.masks.specs.Masks.{has}
use Rattle.patternreader.proofs.linked.Given as goal

abbrev pub invariant-loop-i : goal.invariant-loop-i
invariant-loop-i l = (l.i ≤ 32) × (length l.mask-items ≡ 32) × ((k : ℕ) → k < l.i → get_or l.mask-items k 0 ≡ bit_or (get_or l.follow k 0) (cond (has l.last k) l.first 0))

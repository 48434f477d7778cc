-- `fill_targets` meets its contract: the cells before c are stored. Assumes nothing.
use mathlib.Core.Path.{◌≡◌}
use Prim.Native.Nat.{ℕ, ◌/◌, ◌%◌, ◌≤◌, ◌<◌}
use lib.ListN.{length, get_or}
use lib.Bits.{bit_and}
use Rattle.patternreader.proofs.fill_targets.Given as goal

abbrev pub invariant-loop-c : goal.invariant-loop-c
invariant-loop-c l = (l.c ≤ 512) × (length l.target-items ≡ 512) × ((k : ℕ) → k < l.c → get_or l.target-items k 0 ≡ bit_and (get_or l.rows (k / 16) 0) (get_or l.positions (k % 16) 0))

-- `fill_offsets` meets its contract. The cells before c have the row offsets, those from c on are
-- still the empty set's. Assumes nothing.
use mathlib.Core.Path.{◌≡◌}
use Prim.Native.Nat.{ℕ, ◌≤◌, ◌<◌}
use lib.ListN.{length, get_or}
use Rattle.lanes.specs.mirror.Offsets.{row_of}
use Rattle.lanes.proofs.fill_offsets.Given as goal

abbrev pub invariant-loop-c : goal.invariant-loop-c
invariant-loop-c l =
    (length l.t ≡ 8208)
    × ((b : ℕ) → b < l.c → get_or l.t b 0 ≡ row_of (get_or l.next b 0))
    × ((b : ℕ) → l.c ≤ b → b < 8208 → get_or l.t b 0 ≡ 8192)

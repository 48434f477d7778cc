-- `start_rows` meets its contract. The cells from q on are still the empty set's. Assumes nothing.
use mathlib.Core.Path.{◌≡◌}
use Prim.Native.Nat.{ℕ, ◌≤◌, ◌<◌}
use lib.ListN.{length, get_or}
use Rattle.chunks.proofs.Running.{start_row}
use Rattle.chunks.proofs.start_rows.Given as goal

abbrev pub invariant-loop-q : goal.invariant-loop-q
invariant-loop-q l =
    (length l.rows ≡ 32)
    × ((p : ℕ) → p < l.q → get_or l.rows p 0 ≡ start_row l.singles l.mask p)
    × ((p : ℕ) → l.q ≤ p → p < 32 → get_or l.rows p 0 ≡ 8192)

-- `first_cell` meets its contract. The invariant: no cell of a row passed holds the number. It stands
-- in a row before its own, so the loop does not pass them all. Assumes nothing.
use mathlib.Core.Path.{◌≡◌}
use Prim.Native.Nat.{ℕ, ◌*◌, ◌≤◌, ◌<◌}
use lib.ListN.{get_or}
use Rattle.searches.proofs.first_cell.Given as goal

abbrev pub invariant-loop-row : goal.invariant-loop-row
invariant-loop-row l = (l.row ≤ l.number.0) × ((c : ℕ) → c < l.row * 16 → get_or l.next c 0 ≡ l.number.0 → ⊥)

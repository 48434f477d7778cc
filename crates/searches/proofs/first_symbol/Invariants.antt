-- `first_symbol` meets its contract. The invariant: by no symbol passed does the set lead there.
-- Assumes nothing.
use mathlib.Core.Path.{◌≡◌}
use Prim.Native.Nat.{ℕ, ◌+◌, ◌*◌, ◌≤◌, ◌<◌}
use lib.ListN.{get_or}
use Rattle.searches.proofs.first_symbol.Given as goal

abbrev pub invariant-loop-s : goal.invariant-loop-s
invariant-loop-s l = (l.s ≤ l.k) × ((t : ℕ) → t < l.s → get_or l.next (l.row * 16 + t) 0 ≡ l.to.0 → ⊥)

-- `find` meets its contract. Whole blocks without the key are passed first. The loop's invariant:
-- the key stands at none of the places passed. So the place where it is found is the first, and
-- where all are passed it has no number. Assumes nothing.
use mathlib.Core.Path.{◌≡◌}
use Prim.Native.Nat.{ℕ, ◌-◌, ◌≤◌, ◌<◌}
use lib.ListN.{get_or}
use Rattle.keys.proofs.find.Given as goal

abbrev pub invariant-loop-i : goal.invariant-loop-i
invariant-loop-i l = (l.i ≤ l.most) × ((j : ℕ) → j < l.i → get_or l.keys j 0 ≡ l.key → ⊥)

abbrev pub decreases-loop-i : goal.decreases-loop-i
decreases-loop-i l = l.most - l.i

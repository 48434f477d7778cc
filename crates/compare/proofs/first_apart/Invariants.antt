-- `first_apart` meets its contract. The invariant: no pair passed tells the two apart. Assumes
-- nothing.
use mathlib.Core.Path.{◌≡◌}
use mathlib.Core.Bool.{false}
use Prim.Native.Nat.{ℕ, ◌≤◌, ◌<◌}
use lib.ListN.{get_or}
use Rattle.compare.specs.Search.{differs}
use Rattle.compare.proofs.first_apart.Given as goal

abbrev pub invariant-loop-i : goal.invariant-loop-i
invariant-loop-i l = (l.i ≤ l.count) × ((j : ℕ) → j < l.i → differs l.finals l.others (get_or l.pairs j 0) ≡ false)

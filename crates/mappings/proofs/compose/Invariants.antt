-- `compose` meets its contract, cell by cell. Assumes nothing.
use mathlib.Core.Path.{◌≡◌}
use Prim.Native.Nat.{ℕ, ◌≤◌, ◌<◌}
use lib.ListN.{length, get_or}
use Rattle.mappings.specs.Mappings.{image}
use Rattle.mappings.proofs.compose.Given as goal

abbrev pub invariant-loop-q : goal.invariant-loop-q
invariant-loop-q l =
    (l.q ≤ 8) × (length l.mask-items ≡ 8) × ((i : ℕ) → i < l.q → get_or l.mask-items i 0 ≡ image l.second (get_or l.first i 0))

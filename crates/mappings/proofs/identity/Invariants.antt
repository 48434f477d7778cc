-- `identity` meets its contract, mask by mask. Assumes nothing.
use mathlib.Core.Path.{◌≡◌}
use mathlib.Core.Bool.{cond}
use Prim.Native.Nat.{ℕ, ◌≤◌, ◌<◌}
use lib.ListN.{length, get_or}
use lib.Dec.{ltb}
use Rattle.masks.specs.Masks.{single}
use Rattle.mappings.proofs.identity.Given as goal

abbrev pub invariant-loop-q : goal.invariant-loop-q
invariant-loop-q l = (l.q ≤ 8) × (length l.mask-items ≡ 8) × ((i : ℕ) → i < l.q → get_or l.mask-items i 0 ≡ cond (ltb i l.n) (single i) 0)

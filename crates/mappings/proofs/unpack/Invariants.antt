-- `unpack` meets its contract: what is left of the number is what stands above the masks passed. Assumes
-- nothing.
use mathlib.Core.Path.{◌≡◌}
use Prim.Native.Nat.{ℕ, ◌*◌, ◌/◌, ◌%◌, ◌^◌, ◌≤◌, ◌<◌}
use lib.ListN.{length, get_or}
use Rattle.mappings.proofs.unpack.Given as goal

abbrev pub invariant-loop-q : goal.invariant-loop-q
invariant-loop-q l = (l.q ≤ 8) × (length l.mask-items ≡ 8) × (l.rest ≡ l.packed / 2 ^ (8 * l.q)) × ((i : ℕ) → i < l.q → get_or l.mask-items i 0 ≡ l.packed / 2 ^ (8 * i) % 2 ^ 8)

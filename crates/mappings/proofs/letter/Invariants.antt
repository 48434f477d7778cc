-- `letter` meets its contract, mask by mask. Assumes nothing.
use mathlib.Core.Path.{◌≡◌}
use Prim.Native.Nat.{ℕ, ◌≤◌, ◌<◌}
use Prim.Native.Nat.{◌%◌, ◌^◌}
use lib.ListN.{length, get_or}
use Rattle.automaton.specs.Rules.{target_mask}
use Rattle.mappings.proofs.letter.Given as goal

abbrev pub invariant-loop-q : goal.invariant-loop-q
invariant-loop-q l = (l.q ≤ 8) × (length l.mask-items ≡ 8) × ((i : ℕ) → i < l.q → get_or l.mask-items i 0 ≡ target_mask l.targets i l.symbol % 2 ^ 8)

-- `pick` meets its contract. Assumes nothing.
use mathlib.Core.Path.{◌≡◌}
use Prim.Native.Nat.{ℕ, ◌<◌}
use lib.ListN.{length, get_or}
use Rattle.blocks.proofs.pick.Given as goal

abbrev pub invariant-loop-j : goal.invariant-loop-j
invariant-loop-j l = (length l.out ≡ 32) × ((b : ℕ) → b < l.j → get_or l.out b 0 ≡ get_or l.list (get_or l.of b 0) 0)

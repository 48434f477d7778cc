-- `then` meets its contract. Assumes nothing.
use mathlib.Core.Path.{◌≡◌}
use Prim.Native.Nat.{ℕ, ◌+◌, ◌<◌}
use lib.ListN.{length, get_or}
use Rattle.blocks.proofs.then.Given as goal

abbrev pub invariant-loop-j : goal.invariant-loop-j
invariant-loop-j l = (length l.counts ≡ 32) × ((b : ℕ) → b < l.j → get_or l.counts b 0 ≡ get_or l.first b 0 + get_or l.second b 0)

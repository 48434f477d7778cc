-- `own_list` meets its contract: each cell below q has its own number. Assumes nothing.
use mathlib.Core.Path.{◌≡◌}
use Prim.Native.Nat.{ℕ, ◌<◌}
use lib.ListN.{length, get_or}
use Rattle.reduce.proofs.own_list.Given as goal

abbrev pub invariant-loop-q : goal.invariant-loop-q
invariant-loop-q l = (length l.delegate-items ≡ 32) × ((i : ℕ) → i < l.q → get_or l.delegate-items i 0 ≡ i)

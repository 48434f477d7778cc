-- `chosen_list` meets its contract: the cells below q are done. Assumes nothing.
use mathlib.Core.Path.{◌≡◌}
use Prim.Native.Nat.{ℕ, ◌<◌}
use lib.ListN.{length, get_or}
use Rattle.reducing.specs.Reduced.{chosen_cell}
use Rattle.reduce.proofs.chosen_list.Given as goal

abbrev pub invariant-loop-q : goal.invariant-loop-q
invariant-loop-q l = (length l.delegate-items ≡ 32) × ((i : ℕ) → i < l.q → get_or l.delegate-items i 0 ≡ chosen_cell l.delegates l.reached i)

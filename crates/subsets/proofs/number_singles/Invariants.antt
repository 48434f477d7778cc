-- `number_singles` meets its contract: the numbers of the states before q are stored. Assumes
-- nothing.
use Rattle.subsets.specs.mirror.Singles.{singleton_number}
use lib.ListN.{length, get_or}
use Prim.Native.Nat.{ℕ, ◌≤◌, ◌<◌}
use mathlib.Core.Path.{◌≡◌}
use Rattle.subsets.proofs.number_singles.Given as goal

abbrev pub invariant-loop-q : goal.invariant-loop-q
invariant-loop-q l = (l.q ≤ 32) × (length l.single-items ≡ 32) × ((p : ℕ) → p < l.q → get_or l.single-items p 0 ≡ singleton_number l.sets l.count p)

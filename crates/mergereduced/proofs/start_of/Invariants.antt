-- `start_of` meets its contract: the cells below q are done. Assumes nothing.
use mathlib.Core.Path.{◌≡◌}
use Prim.Native.Nat.{ℕ, ◌<◌}
use lib.ListN.{length, get_or}
use Rattle.masks.specs.Masks.{bit}
use Rattle.merging.specs.Merged.{set_of}
use Rattle.mergereduced.proofs.start_of.Given as goal

abbrev pub invariant-loop-q : goal.invariant-loop-q
invariant-loop-q l = (length l.member-items ≡ 1024) × ((i : ℕ) → i < l.q → get_or l.member-items i 0 ≡ bit (set_of l.way l.n1 l.n2 l.a l.b) i)

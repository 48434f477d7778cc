-- `both_of` meets its contract: the cells below q are done. Assumes nothing.
use mathlib.Core.Path.{◌≡◌}
use Prim.Native.Nat.{ℕ, ◌<◌}
use lib.ListN.{length, get_or}
use Rattle.masks.specs.Masks.{bit}
use lib.Bits.{bit_and}
use Rattle.mergereduced.specs.mirror.Asked.{set_in}
use Rattle.mergereduced.proofs.both_of.Given as goal

abbrev pub invariant-loop-q : goal.invariant-loop-q
invariant-loop-q l = (length l.member-items ≡ 1024) × ((i : ℕ) → i < l.q → get_or l.member-items i 0 ≡ bit (bit_and (set_in l.a) (set_in l.b)) i)

-- `fill` meets its contract. The loop's invariant: the first count sets are those that the
-- definition has after the states below q, and the arrays hold them and every cell of theirs.
-- Assumes nothing.
use mathlib.Core.Path.{◌≡◌}
use Prim.Native.Nat.{◌*◌, ◌≤◌, min}
use lib.ListN.{take}
use Rattle.numbering.specs.mirror.Arrays.{ArraysHold}
use Rattle.subsets.specs.Sets.{set_walk, sets_up_to}
use Rattle.subsets.proofs.fill.Given as goal

abbrev pub invariant-loop-q : goal.invariant-loop-q
invariant-loop-q l =
    (l.q-end ≡ min l.n 32) × (l.q ≤ l.q-end) × (l.count ≤ 512) × (take l.count l.sets ≡ sets_up_to l.targets l.k l.q)
    × ArraysHold (set_walk l.targets l.k) 512 (take l.count l.sets) (l.count * 16) l.sets l.next

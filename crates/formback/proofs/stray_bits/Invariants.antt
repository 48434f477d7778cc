-- `stray_bits` meets its contract. The loop's invariant: no mask passed has such a bit. Assumes nothing.
use Prim.Native.Nat.{◌^◌}
use lib.Dec.{leb}
use lib.ListN.{get_or}
use Rattle.formback.proofs.Turns.{Passed}
use Rattle.formback.proofs.stray_bits.Given as goal

abbrev pub invariant-loop-t : goal.invariant-loop-t
invariant-loop-t l = Passed (λ j. leb (2 ^ l.k) (get_or l.kept j 0)) l.sets l.t

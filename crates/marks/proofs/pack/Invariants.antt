-- `pack` meets its contract. The loop's invariant: the text of the bytes passed stands at the start
-- of the buffer, and has no more bytes than were passed. Assumes nothing.
use Prim.Native.Nat.{◌-◌}
use lib.ListN.{length}
use Rattle.marks.proofs.Packing.{Packed}
use Rattle.marks.proofs.pack.Given as goal

abbrev pub invariant-loop-b : goal.invariant-loop-b
invariant-loop-b l = Packed l.chunk l.initial.text l.text l.n l.b-index

abbrev pub decreases-loop-b : goal.decreases-loop-b
decreases-loop-b l = length l.chunk - l.b-index

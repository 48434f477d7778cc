-- `gather` meets its contract. Assumes nothing.
--
-- The route: the loop's invariant, `SoFar`, says that what was gathered with what is gathered from
-- here on is what the whole block gives. A turn feeds one part: a line that goes on is kept
-- (`part_on`), one that ends is answered (`part_answered`). The loop ends where the block is used up
-- or the room is short.
use Rattle.linetexts.proofs.Gathering.{SoFar}
use Rattle.mergestream.specs.Texts.{merge_lines, merge_state}
use lib.ListN.{length}
use Prim.Native.Nat.{◌-◌}
use mathlib.Core.Path.{◌≡◌}
use Rattle.mergestream.proofs.gather.Given as goal

abbrev pub invariant-loop-at : goal.invariant-loop-at
invariant-loop-at l =
    (length l.one ≡ length l.initial.one) × (length l.two ≡ length l.initial.two)
    × SoFar merge_lines l.block l.from (merge_state l.initial.scan l.initial.one l.initial.two) l.initial.out l.at (merge_state l.scan l.one l.two) l.out l.written

abbrev pub decreases-loop-at : goal.decreases-loop-at
decreases-loop-at l =
    length l.block - l.at

-- `gather` meets its contract. Assumes nothing.
--
-- The route: the loop's invariant, `SoFar`, says that what was gathered with what is gathered from
-- here on is what the whole block gives. A turn feeds one part: a line that goes on is kept
-- (`turn_on`), one that ends is answered (`turn_put`). The loop ends where the block is used up or the
-- room is short.
use Rattle.linetexts.specs.Alone.{answering, line_state}
use Rattle.linetexts.proofs.Gathering.{SoFar}
use lib.ListN.{length}
use Prim.Native.Nat.{◌-◌}
use mathlib.Core.Path.{◌≡◌}
use Rattle.linetexts.proofs.gather.Given as goal

abbrev pub invariant-loop-at : goal.invariant-loop-at
invariant-loop-at g l =
    let a = g.A.AnswersLines in
    (length l.line ≡ length l.initial.line)
    × SoFar (answering a.answer a.overlong a.longest a.ROOM) l.block l.from (line_state l.initial.held l.initial.line) l.initial.out l.at (line_state l.held l.line) l.out l.written

abbrev pub decreases-loop-at : goal.decreases-loop-at
decreases-loop-at g l =
    length l.block - l.at

-- `gather` meets its contract. Assumes nothing.
--
-- The route: the loop's invariant, `SoFar`, says that what was gathered with what is gathered from
-- here on is what the whole block gives. A turn feeds one part: a line that goes on is kept
-- (`turn_on`); one that is skipped, one that asks for the verdict or a question, and one that is run are
-- answered (`turn_answered`), all but the last from the judge at hand. The loop ends where the block is used up or the room is short.
use Rattle.linetexts.proofs.Gathering.{SoFar, ended}
use Rattle.linetexts.specs.Beginnings.{state_of}
use Rattle.linetexts.specs.Lists.{list_of}
use Rattle.stream.specs.Texts.{call_lines}
use lib.ListN.{length}
use Prim.Native.Nat.{◌-◌}
use mathlib.Core.Path.{◌≡◌}
use Rattle.stream.proofs.gather.Given as goal

abbrev pub invariant-loop-at : goal.invariant-loop-at
invariant-loop-at l =
    (length l.line ≡ length l.initial.line) × (length l.bytes ≡ length l.initial.bytes)
    × SoFar call_lines l.block l.from (state_of (list_of l.initial.judge l.initial.ended) l.initial.held l.initial.line) l.initial.out l.at (state_of (list_of l.judge l.ended) l.held l.line) l.out l.written

abbrev pub decreases-loop-at : goal.decreases-loop-at
decreases-loop-at l = length l.block - l.at

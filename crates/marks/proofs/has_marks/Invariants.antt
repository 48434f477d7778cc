-- `has_marks` meets its contract. The loop's invariant: the chunk has a mark exactly where one was
-- found or one is left. Assumes nothing.
use mathlib.Core.Path.{◌≡◌}
use mathlib.Core.Bool.{◌||◌}
use Prim.Native.Nat.{◌≤◌}
use lib.ListN.{length, drop}
use Rattle.marks.specs.Marks.{marked}
use Rattle.marks.proofs.has_marks.Given as goal

abbrev pub invariant-loop-byte : goal.invariant-loop-byte
invariant-loop-byte l = (l.byte-index ≤ length l.chunk) × (marked l.chunk ≡ l.found || marked (drop l.byte-index l.chunk))

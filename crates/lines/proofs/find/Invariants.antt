-- `find` meets its contract. The loop's invariant: the first such byte from `from` on is the first
-- from i on. Assumes nothing.
use mathlib.Core.Path.{◌≡◌}
use Prim.Native.Nat.{◌+◌, ◌≤◌, max}
use lib.ListN.{length, drop}
use Rattle.lines.specs.Splitting.{up_to}
use Rattle.lines.proofs.find.Given as goal

abbrev pub invariant-loop-i : goal.invariant-loop-i
invariant-loop-i l =
    (l.i ≤ max l.from (length l.text)) × (l.from + length (up_to l.c (drop l.from l.text)) ≡ l.i + length (up_to l.c (drop l.i l.text)))

-- `begins_with` meets its contract. The loop's invariant: the text begins with the head exactly
-- when what follows i begins with the rest of the head. Assumes nothing.
use mathlib.Core.Path.{◌≡◌}
use Prim.Native.Nat.{◌≤◌}
use lib.ListN.{length, drop}
use Rattle.lines.specs.Splitting.{begins}
use Rattle.lines.proofs.begins_with.Given as goal

abbrev pub invariant-loop-i : goal.invariant-loop-i
invariant-loop-i l = (length l.head ≤ length l.text) × (begins l.head l.text ≡ begins (drop l.i l.head) (drop l.i l.text))

-- `put_bytes` meets its contract. The loop's invariant: the first i bytes are written. Assumes
-- nothing.
use Rattle.text.specs.Writing.{Wrote}
use lib.ListN.{length, take}
use Prim.Native.Nat.{◌+◌, ◌≤◌}
use mathlib.Core.Path.{◌≡◌}
use Rattle.text.proofs.put_bytes.Given as goal

abbrev pub invariant-loop-i : goal.invariant-loop-i
invariant-loop-i l = (l.i ≤ length l.bytes) × (l.at + length l.bytes ≤ length l.initial.out) × (length l.out ≡ length l.initial.out) × Wrote l.initial.out l.at (take l.i l.bytes) l.out (l.at + l.i)

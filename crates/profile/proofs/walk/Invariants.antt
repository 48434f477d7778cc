-- `walk` meets its contract. The invariant: what is left of the text leads from the number so far to
-- where the whole text leads from 0. Assumes nothing.
use mathlib.Core.Path.{◌≡◌}
use Prim.Native.Nat.{◌≤◌, ◌<◌}
use lib.ListN.{length, drop}
use Rattle.profile.specs.Runs.{walk_to}
use Rattle.profile.proofs.walk.Given as goal

abbrev pub invariant-loop-byte : goal.invariant-loop-byte
invariant-loop-byte l = (l.byte-index ≤ length l.text) × (l.number < 65536) × (walk_to l.next 0 l.text ≡ walk_to l.next l.number (drop l.byte-index l.text))

-- `grammatical` meets its contract: the test of the bytes from i on is the test of all. Assumes
-- nothing.
use mathlib.Core.Path.{◌≡◌}
use Prim.Native.Nat.{◌≤◌}
use lib.ListN.{length, drop}
use Rattle.patternscan.specs.Scanning.{within, scan, whole, grammatical as grammaticalOf}
use Rattle.patternscan.proofs.grammatical.Given as goal

abbrev pub invariant-loop-byte : goal.invariant-loop-byte
invariant-loop-byte l = (l.byte-index ≤ length l.bytes) × (l.depth ≤ l.byte-index) × (whole (scan (within l.depth l.starry) (drop l.byte-index l.bytes)) ≡ grammaticalOf l.bytes)

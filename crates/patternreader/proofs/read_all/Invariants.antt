-- `read_all` meets its contract: what is read, with the bytes from i on, gives the whole. Assumes
-- nothing.
use mathlib.Core.Path.{◌≡◌}
use Prim.Native.Nat.{◌≤◌}
use lib.ListN.{length, drop}
use Rattle.patternreader.specs.Reader.{after_bytes, beginning}
use Rattle.patternreader.proofs.read_all.Given as goal

abbrev pub invariant-loop-byte : goal.invariant-loop-byte
invariant-loop-byte l = (l.byte-index ≤ length l.bytes) × (after_bytes l.r (drop l.byte-index l.bytes) ≡ after_bytes beginning l.bytes)

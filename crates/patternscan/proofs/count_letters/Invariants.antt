-- `count_letters` meets its contract: the letters counted, with those from i on, are all. Assumes
-- nothing.
use mathlib.Core.Path.{◌≡◌}
use Prim.Native.Nat.{◌+◌, ◌≤◌}
use lib.ListN.{length, drop}
use Rattle.patternscan.specs.Signs.{letters_in}
use Rattle.patternscan.proofs.count_letters.Given as goal

abbrev pub invariant-loop-byte : goal.invariant-loop-byte
invariant-loop-byte l = (l.byte-index ≤ length l.bytes) × (l.n ≤ l.byte-index) × (l.n + length (letters_in (drop l.byte-index l.bytes)) ≡ length (letters_in l.bytes))

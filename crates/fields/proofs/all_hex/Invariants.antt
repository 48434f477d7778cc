-- `all_hex` meets its contract. The loop's invariant: the bytes before i are hex digits. Assumes
-- nothing.
use mathlib.Core.Path.{◌≡◌}
use Prim.Native.Nat.{◌≤◌}
use lib.ListN.{length, drop}
use Rattle.fields.specs.Bytes.{all_hex}
use Rattle.fields.proofs.all_hex.Given as goal

abbrev pub invariant-loop-byte : goal.invariant-loop-byte
invariant-loop-byte l = (l.byte-index ≤ length l.field) × (all_hex l.field ≡ all_hex (drop l.byte-index l.field))

-- `read_number` meets its contract. The loop's invariant: the field says what the bytes from i on
-- say after digits of the value. Assumes nothing.
use mathlib.Core.Path.{◌≡◌}
use Prim.Native.Nat.{◌-◌, ◌≤◌}
use lib.ListN.{length, drop}
use Rattle.fields.specs.Numbers.{parse_number}
use Rattle.fields.proofs.Digits.{said_from}
use Rattle.fields.proofs.read_number.Given as goal

abbrev pub invariant-loop-c : goal.invariant-loop-c
invariant-loop-c l = (l.c-index ≤ length l.field) × (l.value ≤ 18446744073709551615) × (parse_number l.field ≡ said_from l.value (drop l.c-index l.field))

abbrev pub decreases-loop-c : goal.decreases-loop-c
decreases-loop-c l = length l.field - l.c-index

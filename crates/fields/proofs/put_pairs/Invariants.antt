-- `put_pairs` meets its contract. The loop's invariant: the bytes of the first i pairs are written.
-- Assumes nothing.
use mathlib.Core.Path.{◌≡◌}
use mathlib.Core.Bool.{true}
use Prim.Native.Nat.{◌*◌, ◌≤◌}
use lib.ListN.{length, take}
use Rattle.text.specs.Writing.{Wrote}
use Rattle.fields.specs.Bytes.{all_hex, pairs}
use Rattle.fields.proofs.put_pairs.Given as goal

abbrev pub invariant-loop-i : goal.invariant-loop-i
invariant-loop-i l =
    (2 * l.i ≤ length l.field) × (all_hex l.field ≡ true) × (l.i ≤ length l.initial.out) × (length l.out ≡ length l.initial.out) × Wrote l.initial.out 0 (take l.i (pairs l.field)) l.out l.i

-- `put_digits` meets its contract: the digits of the first i bytes are written. Assumes nothing.
use Prim.Native.Nat.{◌+◌, ◌*◌, ◌≤◌}
use lib.ListN.{length, take}
use Rattle.text.proofs.Fitting.{Put}
use Rattle.fields.specs.Claims.{digits_of}
use Rattle.hexfields.proofs.put_digits.Given as goal

abbrev pub invariant-loop-byte : goal.invariant-loop-byte
invariant-loop-byte l =
    (l.byte-index ≤ length l.bytes) × (l.at + 2 * length l.bytes ≤ length l.initial.out) × Put l.initial.out l.at (digits_of (take l.byte-index l.bytes)) l.out l.end

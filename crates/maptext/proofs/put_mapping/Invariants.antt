-- `put_mapping` meets its contract. The loop's invariant: the digits of the first q masks are written.
-- Assumes nothing.
use Prim.Native.Nat.{◌+◌, ◌≤◌}
use lib.ListN.{length, get_or}
use Rattle.base.specs.Lists.{joined}
use Rattle.text.specs.Numerals.{hex}
use Rattle.text.proofs.Fitting.{Put}
use Rattle.maptext.proofs.put_mapping.Given as goal

abbrev pub invariant-loop-mask : goal.invariant-loop-mask
invariant-loop-mask l = (l.mask-index ≤ 8) × (l.start + 16 ≤ length l.initial.out) × Put l.initial.out l.start (joined (λ i. hex 2 (get_or l.mask-items i 0)) l.mask-index) l.out l.at

-- `put_lines` meets its contract. The loop's invariant: the lines of the first i mappings are written.
-- Assumes nothing.
use Prim.Native.Nat.{◌+◌, ◌*◌, ◌≤◌}
use lib.ListN.{length}
use Rattle.base.specs.Lists.{joined}
use Rattle.profiletext.specs.ProfileText.{mapping_line}
use Rattle.text.proofs.Fitting.{Put}
use Rattle.profiletext.proofs.put_lines.Given as goal

abbrev pub invariant-loop-i : goal.invariant-loop-i
invariant-loop-i l = (l.i ≤ l.count) × (l.k ≤ 16) × (l.count ≤ 512) × (l.start + 85 * l.count ≤ length l.initial.out) × Put l.initial.out l.start (joined (mapping_line l.mappings l.next l.k) l.i) l.out l.at

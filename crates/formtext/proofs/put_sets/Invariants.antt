-- `put_sets` meets its contract. The loop's invariant: the lines of the sets passed are written, and
-- so many cells stand in them. Assumes nothing.
use mathlib.Core.Path.{◌≡◌}
use Prim.Native.Nat.{◌+◌, ◌*◌, ◌≤◌}
use lib.ListN.{length}
use Rattle.base.specs.Lists.{joined}
use Rattle.text.proofs.Fitting.{Put}
use Rattle.formtext.specs.FormText.{first_cell, set_line}
use Rattle.formtext.proofs.put_sets.Given as goal

abbrev pub invariant-loop-t : goal.invariant-loop-t
invariant-loop-t l =
    (l.t ≤ l.count) × (l.count ≤ 512) × (l.first ≡ first_cell l.kept l.t) × (l.start + 79 * l.count ≤ length l.initial.out) × (l.at ≤ l.start + 79 * l.t)
    × Put l.initial.out l.start (joined (set_line l.failure l.kept l.cells) l.t) l.out l.at

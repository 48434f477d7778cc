-- `mark_sets` meets its contract. The loop's invariant: the sets passed are marked, and the other cells are 0. Assumes nothing.
use mathlib.Core.Path.{◌≡◌}
use lib.ListN.{length}
use Rattle.forms.specs.Form.{failure_of, kept_mask}
use Rattle.forms.proofs.Filling.{Filled}
use Rattle.formmaker.proofs.mark_sets.Given as goal

abbrev pub invariant-loop-t : goal.invariant-loop-t
invariant-loop-t l =
    (length l.failure ≡ 512) × (length l.kept ≡ 512) × Filled 512 0 (failure_of l.next l.k) l.t l.failure
    × Filled 512 0 (kept_mask l.next l.k) l.t l.kept

-- `first_meeting` meets its contract. The invariant: no set passed meets the wish. Assumes
-- nothing.
use mathlib.Core.Path.{◌≡◌}
use mathlib.Core.Bool.{false}
use Prim.Native.Nat.{ℕ, ◌≤◌, ◌<◌}
use lib.ListN.{get_or}
use Rattle.samples.specs.Search.{meets}
use Rattle.sampling.proofs.first_meeting.Given as goal

abbrev pub invariant-loop-i : goal.invariant-loop-i
invariant-loop-i l = (l.i ≤ l.count) × ((j : ℕ) → j < l.i → meets l.finals l.wish (get_or l.sets j 0) ≡ false)

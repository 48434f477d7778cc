-- `find_loss` meets its contract: C is joined up to the place, and what is found from there on is what
-- is found. Assumes nothing.
use mathlib.Core.Path.{◌≡◌}
use Prim.Native.Nat.{◌-◌}
use Rattle.joins.specs.Joining.{join_up_to}
use Rattle.diagnoses.specs.Diagnosing.{find_from}
use Rattle.diagnoses.proofs.Finding.{no_chunk, lost_past}
use Rattle.diagnoses.proofs.find_loss.Given as goal

abbrev pub invariant-loop-place : goal.invariant-loop-place
invariant-loop-place l =
    (l.set ≡ join_up_to l.ends l.delegates l.n l.initials l.place)
    × (find_from (no_chunk l.filled l.ends l.delegates l.n l.initials) (lost_past l.filled l.ends l.delegates l.n l.initials) l.place (l.places - l.place)
    ≡ find_from (no_chunk l.filled l.ends l.delegates l.n l.initials) (lost_past l.filled l.ends l.delegates l.n l.initials) 0 l.places)

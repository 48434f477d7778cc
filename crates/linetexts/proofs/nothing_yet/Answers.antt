-- `nothing_yet` meets its contract. Assumes nothing.
use mathlib.Core.Path.{ap}
use mathlib.Core.Bool.{false}
use Rattle.longlines.specs.declared.Held.{Held}
use Rattle.linetexts.specs.declared.Pending.{Pending}
use Rattle.linetexts.proofs.nothing_yet.Goals as goal

abbrev begun : Held → Pending
begun h = record { held = h; ended = false }

pub returns : goal.returns
returns c = ap begun c.nothing-held.ensures

-- `in_chunk` meets its contract. Assumes nothing.
use mathlib.Core.Path.{ap}
use Rattle.locating.specs.Locating.{stuck_after}
use Rattle.locating.proofs.in_chunk.Goals as goal

pub returns : goal.returns
returns c = rw c.in_ok-bytes.was (ap stuck_after c.position.ensures)

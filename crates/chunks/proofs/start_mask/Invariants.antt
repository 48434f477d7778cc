-- `start_mask` meets its contract. The loop's invariant: the set has the starts below q. Assumes
-- nothing.
use mathlib.Core.Path.{◌≡◌}
use Rattle.delegates.specs.Alike.{start_set}
use Rattle.chunks.proofs.start_mask.Given as goal

abbrev pub invariant-loop-q : goal.invariant-loop-q
invariant-loop-q l = l.starts ≡ start_set l.delegates l.q

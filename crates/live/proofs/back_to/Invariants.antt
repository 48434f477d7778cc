-- `back_to` meets its contract. The loop's invariant: the states below q that lead there are found.
-- Assumes nothing.
use mathlib.Core.Path.{◌≡◌}
use Rattle.masks.specs.Masks.{mask_of}
use Rattle.live.specs.Live.{leads}
use Rattle.live.proofs.back_to.Given as goal

abbrev pub invariant-loop-q : goal.invariant-loop-q
invariant-loop-q l = l.found ≡ mask_of (leads l.targets l.set) l.q

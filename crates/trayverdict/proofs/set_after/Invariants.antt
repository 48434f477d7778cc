-- `set_after` meets its contract: what is reached after the rest of the text is what the whole text
-- reaches. Assumes nothing.
use mathlib.Core.Path.{◌≡◌}
use lib.ListN.{drop}
use Rattle.automaton.specs.Successor.{after}
use Rattle.trayverdict.proofs.set_after.Given as goal

abbrev pub invariant-loop-byte : goal.invariant-loop-byte
invariant-loop-byte l = after l.targets l.set l.text ≡ after l.targets l.reached (drop l.byte-index l.text)

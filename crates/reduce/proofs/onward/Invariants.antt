-- `onward` meets its contract. The loop's invariant: `found` is gathered from the symbols below s.
-- Assumes nothing.
use mathlib.Core.Path.{◌≡◌}
use Rattle.automaton.specs.Successor.{successor}
use Rattle.reducing.specs.Reduced.{gather, delegated}
use Rattle.reduce.proofs.onward.Given as goal

abbrev pub invariant-loop-s : goal.invariant-loop-s
invariant-loop-s l = l.found ≡ gather (λ x. delegated l.delegates (successor l.targets l.set x)) l.s

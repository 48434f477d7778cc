-- `symbols_to` meets its contract. The loop's invariant: `out` has the symbols passed. Assumes
-- nothing.
use mathlib.Core.Path.{◌≡◌}
use Rattle.masks.specs.Masks.{has, mask_of}
use Rattle.automaton.specs.Rules.{target_mask}
use Rattle.mergereduced.proofs.symbols_to.Given as goal

abbrev pub invariant-loop-s : goal.invariant-loop-s
invariant-loop-s l = l.out ≡ mask_of (λ z. has (target_mask l.t l.x z) l.y) l.s

-- `leads` meets its contract. The loop's invariant: no symbol passed leads there. Assumes nothing.
use mathlib.Core.Path.{◌≡◌}
use mathlib.Core.Bool.{false}
use Prim.Native.Nat.{◌<◌}
use Rattle.base.specs.Conditions.{any_below}
use Rattle.masks.specs.Masks.{shares}
use Rattle.automaton.specs.Rules.{target_mask}
use Rattle.live.proofs.leads.Given as goal

abbrev pub invariant-loop-s : goal.invariant-loop-s
invariant-loop-s l = (l.row < 32) × (any_below (λ x. shares (target_mask l.targets l.row x) l.set) l.s ≡ false)

-- `pairs_break` meets its contract. The loop's invariant: no pair before q breaks the rule, and
-- `due` is where section q has to begin. Assumes nothing.
use Rattle.base.specs.Conditions.{any_below}
use Rattle.ruleformat.specs.Refusals.{due_at, bad_pair}
use Rattle.ruleformat.specs.Format.{state_count}
use lib.ListN.{length}
use Prim.Native.Nat.{◌+◌, ◌*◌, ◌≤◌, ◌<◌}
use mathlib.Core.Bool.{false}
use mathlib.Core.Path.{◌≡◌}
use Rattle.rulefile.proofs.pairs_break.Given as goal

abbrev pub invariant-loop-q : goal.invariant-loop-q
invariant-loop-q l =
    (l.n ≡ state_count l.file) × (l.n < 256) × (10 + 4 * l.n ≤ length l.file) × (l.due ≡ due_at l.file l.q) × (any_below (bad_pair l.file) l.q ≡ false)

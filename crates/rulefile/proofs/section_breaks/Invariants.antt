-- `section_breaks` meets its contract. The loop's invariant: no arc before i breaks the rule, and
-- `past` is one more than the arc before i, as a number. Assumes nothing.
use Rattle.base.specs.Conditions.{any_below}
use Rattle.ruleformat.proofs.Arcs.{past_of}
use Rattle.ruleformat.specs.Refusals.{bad_arc}
use mathlib.Core.Bool.{false}
use mathlib.Core.Path.{◌≡◌}
use Rattle.rulefile.proofs.section_breaks.Given as goal

abbrev pub invariant-loop-i : goal.invariant-loop-i
invariant-loop-i l = (l.past ≡ past_of l.section l.i) × (any_below (bad_arc l.n l.k l.section) l.i ≡ false)

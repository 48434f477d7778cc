-- `put_sets` meets its contract. The loop's invariant: the lines of the first i sets are written.
-- Assumes nothing.
use Prim.Native.Nat.{◌+◌, ◌*◌, ◌≤◌}
use lib.ListN.{length}
use Rattle.base.specs.Lists.{joined}
use Rattle.ruletext.specs.RuleText.{set_line}
use Rattle.text.proofs.Fitting.{Put}
use Rattle.ruletext.proofs.put_sets.Given as goal

abbrev pub invariant-loop-i : goal.invariant-loop-i
invariant-loop-i l =
    (l.k ≤ 16) × (l.count ≤ 512) × (l.start + 77 * l.count ≤ length l.initial.out)
    × Put l.initial.out l.start (joined (set_line l.sets l.next l.k) l.i) l.out l.at

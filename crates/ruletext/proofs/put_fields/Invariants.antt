-- `put_fields` meets its contract. The loop's invariant: the delegates of the first q states are
-- written. Assumes nothing.
use Prim.Native.Nat.{◌+◌, ◌*◌, ◌≤◌}
use lib.ListN.{length}
use Rattle.base.specs.Lists.{joined}
use Rattle.delegates.specs.Alike.{delegate_in}
use Rattle.ruletext.specs.RuleText.{delegate_text}
use Rattle.text.proofs.Fitting.{Put}
use Rattle.ruletext.proofs.put_fields.Given as goal

abbrev pub invariant-loop-q : goal.invariant-loop-q
invariant-loop-q l =
    (l.start + 4 * l.n ≤ length l.initial.out) × Put l.initial.out l.start (joined (λ i. delegate_text (delegate_in l.delegates i)) l.q) l.out l.at

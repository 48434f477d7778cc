-- `leads` meets its contract. Assumes nothing.
use mathlib.Core.Path.{ap, ◌∙◌}
use Prim.Native.Nat.{ℕ}
use borrow.Author.Tests.{lt-ltb, le-ltb}
use Rattle.masks.specs.Masks.{has}
use Rattle.dotlabels.specs.Labels.{leads}
use Rattle.dotlabels.proofs.leads.Goals as goal

pub returns-then-s-k : goal.returns-then-s-k
unfolding leads
returns-then-s-k c =
    let a = c.args in
    rw (lt-ltb a.s a.k c.if-s-k.true) (c.member.ensures ∙ ap (λ (m : ℕ). has m a.t.0) c.cell.ensures)

pub returns-else-s-k : goal.returns-else-s-k
unfolding leads
returns-else-s-k c = let a = c.args in rw (le-ltb a.s a.k c.if-s-k.false)

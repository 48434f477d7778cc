-- `put_initial` meets its contract. Assumes nothing.
use mathlib.Core.Path.{◌≡◌, sym, ◌∙◌}
use mathlib.Core.Bool.{true, false}
use Rattle.masks.specs.Masks.{has}
use Rattle.text.proofs.Rooms.{two, nothing}
use Rattle.dotgraph.proofs.put_initial.Goals as goal

pub returns-then-member : goal.returns-then-member
returns-then-member c =
    let e : has c.args.initials c.args.q.0 ≡ true = sym c.member.ensures ∙ c.if-member.true in
    rw e (two 19 11 c.requires.1 c.put_point-a.ensures (λ h. c.put_entry.ensures))

pub returns-else-member : goal.returns-else-member
returns-else-member c =
    let e : has c.args.initials c.args.q.0 ≡ false = sym c.member.ensures ∙ c.if-member.false in
    rw e (nothing c.args.out.now c.args.at 30)

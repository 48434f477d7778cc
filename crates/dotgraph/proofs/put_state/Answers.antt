-- `put_state` meets its contract. Assumes nothing.
use native.Mathlib.Omega.{arith}
use mathlib.Core.Path.{◌≡◌, sym, ◌∙◌}
use mathlib.Core.Bool.{true, false}
use Rattle.masks.specs.Masks.{has}
use Rattle.text.proofs.Rooms.{exact, two}
use Rattle.dotgraph.proofs.put_state.Goals as goal

pub returns-then-member : goal.returns-then-member
returns-then-member c =
    let e : has c.args.finals c.args.q.0 ≡ true = sym c.member.ensures ∙ c.if-member.true in
    rw e (two 2 23 c.requires.1 c.put_number-a.ensures (λ h. exact c.put_bytes.ensures))

pub returns-else-member : goal.returns-else-member
returns-else-member c =
    let e : has c.args.finals c.args.q.0 ≡ false = sym c.member.ensures ∙ c.if-member.false in
    let w = two 2 2 (omega (arith, c.requires.1)) c.put_number-a.ensures (λ h. exact c.put_bytes-else-member.ensures) in
    rw e (w.0, omega (arith, w.1))

-- `put_head` meets its contract. Assumes nothing.
use native.Mathlib.Nat.{le_refl}
use Rattle.text.proofs.Rooms.{exact, left, fits, more, two}
use Rattle.formtext.proofs.put_head.Goals as goal

pub put_named-b-requires : goal.put_named-b-requires
put_named-b-requires c =
    fits 10 14 12 c.requires c.put_named-a.ensures (le_refl 14)

pub put_named-c-requires : goal.put_named-c-requires
put_named-c-requires c =
    fits 14 11 1 (left 10 26 c.requires c.put_named-a.ensures) c.put_named-b.ensures (le_refl 11)

pub put_byte-requires : goal.put_byte-requires
put_byte-requires c =
    more 11 0 (left 14 12 (left 10 26 c.requires c.put_named-a.ensures) c.put_named-b.ensures) c.put_named-c.ensures

pub returns : goal.returns
returns c =
    two 10 26 c.requires c.put_named-a.ensures
    (λ h0. two 14 12 h0 c.put_named-b.ensures
    (λ h1. two 11 1 h1 c.put_named-c.ensures
    (λ h2. exact c.put_byte.ensures)))

-- `put_set` meets its contract. Assumes nothing.
use native.Mathlib.Nat.{le_refl}
use native.Mathlib.Omega.{arith}
use Rattle.text.proofs.Rooms.{exact, most, left, fits, more, two}
use Rattle.ruletext.proofs.Lengths.{index_most}
use Rattle.formtext.proofs.put_set.Goals as goal

pub put_decimal-a-requires : goal.put_decimal-a-requires
put_decimal-a-requires c =
    omega (arith, c.requires, index_most c.args.t.0 c.requires.0)

pub put_number-b-requires : goal.put_number-b-requires
put_number-b-requires c =
    fits 3 6 70 c.requires.3 (most 3 (index_most c.args.t.0 c.requires.0) c.put_decimal-a.ensures) (le_refl 6)

pub put_mask-c-requires : goal.put_mask-c-requires
put_mask-c-requires c =
    let h = left 3 76 c.requires.3 (most 3 (index_most c.args.t.0 c.requires.0) c.put_decimal-a.ensures) in
    fits 6 5 65 h c.put_number-b.ensures (le_refl 5)

pub put_cells-d-requires : goal.put_cells-d-requires
put_cells-d-requires c =
    let h = left 3 76 c.requires.3 (most 3 (index_most c.args.t.0 c.requires.0) c.put_decimal-a.ensures) in
    let i = left 6 70 h c.put_number-b.ensures in
    (c.requires.1, c.requires.2, fits 5 64 1 i c.put_mask-c.ensures (le_refl 64))

pub put_byte-requires : goal.put_byte-requires
put_byte-requires c =
    let h = left 3 76 c.requires.3 (most 3 (index_most c.args.t.0 c.requires.0) c.put_decimal-a.ensures) in
    let i = left 6 70 h c.put_number-b.ensures in
    let j = left 5 65 i c.put_mask-c.ensures in
    more 64 0 j c.put_cells-d.ensures

pub returns : goal.returns
returns c =
    two 3 76 c.requires.3 (most 3 (index_most c.args.t.0 c.requires.0) c.put_decimal-a.ensures)
    (λ h0. two 6 70 h0 c.put_number-b.ensures
    (λ h1. two 5 65 h1 c.put_mask-c.ensures
    (λ h2. two 64 1 h2 c.put_cells-d.ensures
    (λ h3. exact c.put_byte.ensures))))

-- `put_set` meets its contract. Assumes nothing.
use native.Mathlib.Nat.{le_refl}
use native.Mathlib.Omega.{arith}
use lib.ListN.{get_or}
use mathlib.Core.Path.{◌≡◌}
use Rattle.text.proofs.Rooms.{exact, most, left, fits, more, two}
use Rattle.ruletext.proofs.Lengths.{index_most, mask_most, cells_most, cells_room}
use Rattle.ruletext.proofs.put_set.Goals as goal

pub put_decimal-a-requires : goal.put_decimal-a-requires
put_decimal-a-requires c = omega (arith, c.requires, index_most c.args.i.0 c.requires.1)

pub put_byte-b-requires : goal.put_byte-b-requires
put_byte-b-requires c =
    more 3 73 c.requires.2 (most 3 (index_most c.args.i.0 c.requires.1) c.put_decimal-a.ensures)

pub put_hex-c-requires : goal.put_hex-c-requires
put_hex-c-requires c =
    let h = left 3 74 c.requires.2 (most 3 (index_most c.args.i.0 c.requires.1) c.put_decimal-a.ensures) in
    fits 1 8 65 h (exact c.put_byte-b.ensures) (le_refl 8)

pub put_row-d-requires : goal.put_row-d-requires
put_row-d-requires c =
    let h = left 3 74 c.requires.2 (most 3 (index_most c.args.i.0 c.requires.1) c.put_decimal-a.ensures) in
    let i = left 1 73 h (exact c.put_byte-b.ensures) in
    (c.requires.0, c.requires.1, fits 8 64 1 i (most 8 (mask_most c.wide.result) c.put_hex-c.ensures) (cells_room c.args.k c.requires.0))

pub put_byte-requires : goal.put_byte-requires
put_byte-requires c =
    let h = left 3 74 c.requires.2 (most 3 (index_most c.args.i.0 c.requires.1) c.put_decimal-a.ensures) in
    let i = left 1 73 h (exact c.put_byte-b.ensures) in
    let j = left 8 65 i (most 8 (mask_most c.wide.result) c.put_hex-c.ensures) in
    more 64 0 j (most 64 (cells_most c.args.next.now c.args.k c.args.i.0 c.requires.0) c.put_row-d.ensures)

pub returns : goal.returns
returns c =
    let a = c.args in
    let mask = get_or a.sets.now a.i.0 0 in
    let e : c.wide.result ≡ mask = c.wide.ensures in
    (two 3 74 c.requires.2 (most 3 (index_most a.i.0 c.requires.1) c.put_decimal-a.ensures)
    (λ h0. two 1 73 h0 (exact c.put_byte-b.ensures)
    (λ h1. two 8 65 h1 (most 8 (mask_most mask) (rw e at c.put_hex-c.ensures))
    (λ h2. two 64 1 h2 (most 64 (cells_most a.next.now a.k a.i.0 c.requires.0) c.put_row-d.ensures)
    (λ h3. exact c.put_byte.ensures))))).0

-- `put_head` meets its contract. Assumes nothing.
use native.Mathlib.Nat.{le_refl}
use Rattle.text.proofs.Rooms.{exact, most, left, fits, more, two}
use Rattle.ruletext.proofs.Lengths.{byte_most, number_most}
use Rattle.ruletext.proofs.put_head.Goals as goal

pub put_decimal-b-requires : goal.put_decimal-b-requires
put_decimal-b-requires c =
    fits 5 3 12 c.requires.1 (exact c.put_bytes-a.ensures) (number_most c.args.count c.requires.0)

pub put_bytes-c-requires : goal.put_bytes-c-requires
put_bytes-c-requires c =
    let h = left 5 15 c.requires.1 (exact c.put_bytes-a.ensures) in
    fits 3 8 4 h (most 3 (number_most c.args.count c.requires.0) c.put_decimal-b.ensures) (le_refl 8)

pub put_decimal-d-requires : goal.put_decimal-d-requires
put_decimal-d-requires c =
    let h = left 5 15 c.requires.1 (exact c.put_bytes-a.ensures) in
    let i = left 3 12 h (most 3 (number_most c.args.count c.requires.0) c.put_decimal-b.ensures) in
    fits 8 3 1 i (exact c.put_bytes-c.ensures) (byte_most c.args.starts c.ranges.starts.fits)

pub put_byte-requires : goal.put_byte-requires
put_byte-requires c =
    let h = left 5 15 c.requires.1 (exact c.put_bytes-a.ensures) in
    let i = left 3 12 h (most 3 (number_most c.args.count c.requires.0) c.put_decimal-b.ensures) in
    let j = left 8 4 i (exact c.put_bytes-c.ensures) in
    more 3 0 j (most 3 (byte_most c.args.starts c.ranges.starts.fits) c.put_decimal-d.ensures)

pub returns : goal.returns
returns c =
    two 5 15 c.requires.1 (exact c.put_bytes-a.ensures)
    (λ h0. two 3 12 h0 (most 3 (number_most c.args.count c.requires.0) c.put_decimal-b.ensures)
    (λ h1. two 8 4 h1 (exact c.put_bytes-c.ensures)
    (λ h2. two 3 1 h2 (most 3 (byte_most c.args.starts c.ranges.starts.fits) c.put_decimal-d.ensures)
    (λ h3. exact c.put_byte.ensures))))

-- `put_line` meets its contract. Assumes nothing.
use mathlib.Core.Path.{◌≡◌}
use mathlib.Core.List.{List}
use Prim.Native.Nat.{ℕ, ◌≤◌}
use native.Mathlib.Nat.{le_refl}
use native.Mathlib.Omega.{arith}
use lib.ListN.{length, get_or}
use Rattle.text.proofs.Rooms.{exact, most, left, fits, more, two}
use Rattle.ruletext.proofs.Lengths.{index_most, cells_most, cells_room}
use Rattle.mappings.specs.Packing.{unpack}
use Rattle.maptext.specs.MappingText.{mapping_text}
use Rattle.maptext.proofs.RoundTrip as maptext
use Rattle.profiletext.proofs.put_line.Goals as goal

digits : (f : List ℕ) → length (mapping_text f) ≤ 16
digits f = omega (arith, (maptext.claims).sixteen f)

pub put_decimal-a-requires : goal.put_decimal-a-requires
put_decimal-a-requires c = omega (arith, c.requires, index_most c.args.i.0 c.requires.1)

pub put_byte-b-requires : goal.put_byte-b-requires
put_byte-b-requires c =
    more 3 81 c.requires.2 (most 3 (index_most c.args.i.0 c.requires.1) c.put_decimal-a.ensures)

pub put_mapping-c-requires : goal.put_mapping-c-requires
put_mapping-c-requires c =
    let h = left 3 82 c.requires.2 (most 3 (index_most c.args.i.0 c.requires.1) c.put_decimal-a.ensures) in
    fits 1 16 65 h (exact c.put_byte-b.ensures) (le_refl 16)

pub put_row-d-requires : goal.put_row-d-requires
put_row-d-requires c =
    let h = left 3 82 c.requires.2 (most 3 (index_most c.args.i.0 c.requires.1) c.put_decimal-a.ensures) in
    let i = left 1 81 h (exact c.put_byte-b.ensures) in
    (c.requires.0, c.requires.1, fits 16 64 1 i (most 16 (digits c.unpack-mapping.result.masks) c.put_mapping-c.ensures) (cells_room c.args.k c.requires.0))

pub put_byte-requires : goal.put_byte-requires
put_byte-requires c =
    let h = left 3 82 c.requires.2 (most 3 (index_most c.args.i.0 c.requires.1) c.put_decimal-a.ensures) in
    let i = left 1 81 h (exact c.put_byte-b.ensures) in
    let j = left 16 65 i (most 16 (digits c.unpack-mapping.result.masks) c.put_mapping-c.ensures) in
    more 64 0 j (most 64 (cells_most c.args.next.now c.args.k c.args.i.0 c.requires.0) c.put_row-d.ensures)

pub returns : goal.returns
returns c =
    let a = c.args in
    let f = unpack (get_or a.mappings.now a.i.0 0) in
    let e : c.unpack-mapping.result.masks ≡ f = c.unpack-mapping.ensures in
    (two 3 82 c.requires.2 (most 3 (index_most a.i.0 c.requires.1) c.put_decimal-a.ensures)
    (λ h0. two 1 81 h0 (exact c.put_byte-b.ensures)
    (λ h1. two 16 65 h1 (most 16 (digits f) (rw e at c.put_mapping-c.ensures))
    (λ h2. two 64 1 h2 (most 64 (cells_most a.next.now a.k a.i.0 c.requires.0) c.put_row-d.ensures)
    (λ h3. exact c.put_byte.ensures))))).0

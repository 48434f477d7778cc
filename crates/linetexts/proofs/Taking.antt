-- A part of a block is found, and taken. Assumes nothing.
--
--   place_ended, place_on   a line feed follows, or none
--   took                    the line that is held goes on with it
use mathlib.Core.Path.{◌≡◌, refl, sym, ap, ◌∙◌}
use mathlib.Core.Bool.{Bool, true, false}
use mathlib.Core.List.{List}
use Prim.Native.Nat.{ℕ, ◌+◌, ◌-◌, ◌≤◌, ◌<◌}
use native.Mathlib.Omega.{arith}
use lib.ListN.{length, take, drop, length-drop}
use lib.Seq.{length-take-le}
use Rattle.lines.specs.Splitting.{up_to}
use Rattle.lines.proofs.Parts.{part_from, part_to}
use Rattle.longlines.specs.declared.Held.{Held}
use Rattle.longlines.specs.Holding.{held_after, buffer_after}
use Rattle.linetexts.specs.declared.Place.{Place}
use Rattle.linetexts.specs.Parts.{Part, ends, goes_on, part_at, part_bytes, part_size, part_ends, PlaceOf, TookPart}
use Rattle.linetexts.proofs.Parts.{part_ended, part_on}

module _ (block : List ℕ) (at : ℕ) (here : at < length block) (end : ℕ) (found : end ≡ at + length (up_to 10 (drop at block))) where
  part_size_lem : length (take (end - at) (drop at block)) ≡ end - at
  part_size_lem = length-take-le (end - at) (drop at block) (omega (arith, part_to block at end here found, length-drop at block))

  place_by : (p : Part) → part_at block at ≡ p → part_bytes p ≡ take (end - at) (drop at block) → (next : ℕ) → next ≡ at + part_size p
      → (b : Bool) → b ≡ part_ends p → PlaceOf block at (record { end = end; next = next; ends = b })
  place_by p is bytes next size b ended = record {
    from = part_from block at end here found;
    to = part_to block at end here found;
    bytes = sym (ap part_bytes is ∙ bytes);
    next = size ∙ ap (λ (q : Part). at + part_size q) (sym is);
    ends = ended ∙ ap part_ends (sym is);
  }

  pub place_ended : end < length block → PlaceOf block at (record { end = end; next = end + 1; ends = true })
  place_ended l =
      place_by (ends (take (end - at) (drop at block))) (part_ended block at end here found l) refl (end + 1)
      (omega (arith, part_size_lem, part_from block at end here found)) true refl

  pub place_on : length block ≤ end → PlaceOf block at (record { end = end; next = end; ends = false })
  place_on l =
      place_by (goes_on (take (end - at) (drop at block))) (part_on block at end here found l) refl end
      (omega (arith, part_size_lem, part_from block at end here found)) false refl

pub took : (block : List ℕ) (at : ℕ) (r : Place) → PlaceOf block at r → (held mid : Held) (line after : List ℕ)
    → mid ≡ held_after line held (take (r.end - at) (drop at block)) → after ≡ buffer_after line held (take (r.end - at) (drop at block))
    → TookPart held line at (part_at block at) (record { held = mid; at = r.next; ends = r.ends }) after
took block at r place held mid line after held_is line-is = record {
  held_is = held_is ∙ ap (held_after line held) place.bytes;
  line-is = line-is ∙ ap (buffer_after line held) place.bytes;
  next = place.next;
  ends = place.ends;
}

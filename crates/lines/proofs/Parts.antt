-- The part of a text from an index to the next line feed, or to the end of the text. Assumes
-- nothing.
use mathlib.Core.Path.{◌≡◌, sym, ap, ◌∙◌}
use mathlib.Core.List.{List}
use Prim.Native.Nat.{ℕ, ◌+◌, ◌-◌, ◌≤◌, ◌<◌}
use native.Mathlib.Omega.{arith}
use lib.ListN.{length, take, drop, length-drop}
use Rattle.lines.specs.Splitting.{up_to}
use Rattle.lines.proofs.Splits.{up_most, up_take}

module _ (w : List ℕ) (at end : ℕ) (here : at < length w) (found : end ≡ at + length (up_to 10 (drop at w))) where
  pub part-rest : length (drop at w) + at ≡ length w
  part-rest = omega (arith, length-drop at w)

  -- it is within the text
  pub part_from : at ≤ end
  part_from = omega (arith, found)

  pub part_to : end ≤ length w
  part_to = omega (arith, found, part-rest, up_most 10 (drop at w))

  pub part_is : take (end - at) (drop at w) ≡ up_to 10 (drop at w)
  part_is =
      let e : end - at ≡ length (up_to 10 (drop at w)) = omega (arith, found) in
      ap (λ (n : ℕ). take n (drop at w)) e ∙ sym (up_take 10 (drop at w))

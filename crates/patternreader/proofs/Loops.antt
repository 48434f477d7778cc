-- What a loop over the bytes says of the bytes that are left: one byte more, and at the end.
-- Assumes nothing.
use mathlib.Core.Path.{◌≡◌, sym, ap, ◌∙◌}
use mathlib.Core.List.{List}
use Prim.Native.Nat.{ℕ, ◌+◌, ◌≤◌, ◌<◌}
use lib.ListN.{length, get_or, drop, drop_of_length-le}
use Rattle.patternscan.specs.declared.Sign.{Sign}
use Rattle.patternscan.specs.Signs.{sign_of}
use Rattle.patternscan.proofs.Loops.{rest}
use Rattle.patternreader.specs.declared.Reading.{Reading}
use Rattle.patternreader.specs.Reader.{after_sign, after_bytes}

module _ (bs : List ℕ) (i : ℕ) where
  pub read_more : (r t x : Reading) (s : Sign) → i < length bs → s ≡ sign_of (get_or bs i 0) → t ≡ after_sign r s
      → after_bytes r (drop i bs) ≡ x → after_bytes t (drop (i + 1) bs) ≡ x
  read_more r t x s h e f g =
      ap (λ (y : Reading). after_bytes y (drop (i + 1) bs)) (f ∙ ap (after_sign r) e) ∙ sym (ap (after_bytes r) (rest bs i h)) ∙ g

  pub read_end : (r x : Reading) → length bs ≤ i → after_bytes r (drop i bs) ≡ x → r ≡ x
  read_end r x h g = sym (ap (after_bytes r) (drop_of_length-le bs h)) ∙ g

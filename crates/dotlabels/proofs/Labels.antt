-- What a label has for a number, case by case. Assumes nothing.
--
--   outside   p does not hold of it
--   first     of the one before it p does not hold
--   within    p holds of the one before and of the one after
--   last      it holds of the one before and not of the one after
use mathlib.Core.Path.{◌≡◌}
use mathlib.Core.Bool.{Bool, true, false}
use mathlib.Core.List.{[]}
use Prim.Native.Nat.{ℕ, ◌+◌}
use Rattle.base.specs.Conditions.{any_below}
use Rattle.dotlabels.specs.Labels.{earlier, first_piece, last_piece, piece}

module _ (p : ℕ → Bool) (s : ℕ) where
  pub outside : p s ≡ false → piece p s ≡ []
  unfolding piece
  outside e = rw e

  pub first : p s ≡ true → earlier p 1 s ≡ false → piece p s ≡ first_piece (any_below p s) s
  unfolding piece
  first e b = rw (e, b)

  pub within : p s ≡ true → earlier p 1 s ≡ true → p (s + 1) ≡ true → piece p s ≡ []
  unfolding piece
  within e b n = rw (e, b, n)

  pub last : p s ≡ true → earlier p 1 s ≡ true → p (s + 1) ≡ false
      → piece p s ≡ last_piece (earlier p 2 s) s
  unfolding piece
  last e b n = rw (e, b, n)

-- Labels, by computation. Assumes nothing.
use mathlib.Core.Path.{◌≡◌, refl}
use mathlib.Core.List.{[], ◌∷◌}
use Rattle.base.specs.Lists.{joined}
use Rattle.base.specs.Conditions.{any_below}
use Rattle.text.specs.Numerals.{decimal_below}
use Rattle.masks.specs.Masks.{has}
use Rattle.dotlabels.specs.Labels.{piece, label}

-- `0,1`
two : label (has 3) 2 ≡ 48 ∷ 44 ∷ 49 ∷ []
unfolding piece joined any_below decimal_below
two = refl

-- `0-5`
range : label (has 63) 6 ≡ 48 ∷ 45 ∷ 53 ∷ []
unfolding piece joined any_below decimal_below
range = refl

-- `0,2-5,7`
mixed : label (has 189) 8 ≡ 48 ∷ 44 ∷ 50 ∷ 45 ∷ 53 ∷ 44 ∷ 55 ∷ []
unfolding piece joined any_below decimal_below
mixed = refl

-- `1,2,14,15`
pairs : label (has 49158) 16 ≡ 49 ∷ 44 ∷ 50 ∷ 44 ∷ 49 ∷ 52 ∷ 44 ∷ 49 ∷ 53 ∷ []
unfolding piece joined any_below decimal_below
pairs = refl

-- `9-11`
two_digits : label (has 3584) 16 ≡ 57 ∷ 45 ∷ 49 ∷ 49 ∷ []
unfolding piece joined any_below decimal_below
two_digits = refl

-- Values and texts worked out by a computation of another kind, outside this project's proofs.
-- Assumes nothing.
use mathlib.Core.Path.{◌≡◌, refl}
use mathlib.Core.List.{[], ◌∷◌}
use Rattle.madetexts.specs.Values.{next_value, made_text}

-- the first three values after the seed 1
first : next_value 1 ≡ 1082269761
unfolding next_value
first = refl

second : next_value 1082269761 ≡ 1152992998833853505
unfolding next_value
second = refl

third : next_value 1152992998833853505 ≡ 11177516664432764457
unfolding next_value
third = refl

-- the highest bit alone, and all 64 bits
highest : next_value 9223372036854775808 ≡ 9295429630892703744
unfolding next_value
highest = refl

all_bits : next_value 18446744073709551615 ≡ 1065361344
unfolding next_value
all_bits = refl

-- texts: the first symbol is of the first new value, and not of the seed
sixteen : made_text 16 1 8 ≡ 1 ∷ 1 ∷ 9 ∷ 5 ∷ 5 ∷ 1 ∷ 1 ∷ 13 ∷ []
unfolding next_value made_text
sixteen = refl

ten : made_text 10 2 6 ≡ 2 ∷ 9 ∷ 6 ∷ 8 ∷ 8 ∷ 9 ∷ []
unfolding next_value made_text
ten = refl

three : made_text 3 7 6 ≡ 0 ∷ 0 ∷ 0 ∷ 1 ∷ 1 ∷ 1 ∷ []
unfolding next_value made_text
three = refl

one : made_text 1 5 3 ≡ 0 ∷ 0 ∷ 0 ∷ []
unfolding next_value made_text
one = refl

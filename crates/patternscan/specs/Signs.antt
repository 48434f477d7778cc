-- The bytes of a pattern (document 02, R-6): ( is 40, ) is 41, * is 42, a to p are 97 to 112, | is
-- 124; any other byte is foreign.
--
--   sign_of b      what the byte b is
--   symbols_of s  the symbol of a letter, nothing for another sign
--   letters_in bs  the letters among the bytes, from the left, as symbols
use Rattle.std.specs.Prelude.{cond, List, [], ◌∷◌, ◌++◌, ℕ, ◌-◌, eqb, ltb, leb}
use Rattle.patternscan.specs.declared.Sign.{Sign}
use Rattle.patternscan.specs.declared.Sign.TheVariants.{Letter, Bar, Opens, Closes, Star, Foreign}

unfoldable pub sign_of : ℕ → Sign
sign_of b =
    cond (ltb b 97)
    (cond (eqb b 40) Opens (cond (eqb b 41) Closes (cond (eqb b 42) Star Foreign)))
    (cond (leb b 112) (Letter (b - 97)) (cond (eqb b 124) Bar Foreign))

abbrev pub symbols_of : Sign → List ℕ
symbols_of (Letter a) = a ∷ []
symbols_of Bar = []
symbols_of Opens = []
symbols_of Closes = []
symbols_of Star = []
symbols_of Foreign = []

abbrev pub letters_in : List ℕ → List ℕ
letters_in [] = []
letters_in (b ∷ bs) = symbols_of (sign_of b) ++ letters_in bs

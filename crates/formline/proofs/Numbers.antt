-- SETS and SYMBOLS: whatever they are, what follows them decides whether a line is malformed; and lines
-- with numbers that are too great for a form as a value. Assumes nothing.
use mathlib.Core.Path.{◌≡◌, refl}
use mathlib.Core.List.{List, ◌∷◌}
use mathlib.Core.Option.{Option, none, some}
use Prim.Native.Nat.{ℕ}
use Rattle.base.proofs.Tests.{zero_one}
use Rattle.lines.specs.Splitting.{up_to, past}
use Rattle.fields.specs.Numbers.{all_digits, value_from}
use Rattle.wordfields.specs.Words.{parse_words}
use Rattle.forms.specs.declared.Form.{Form}
use Rattle.formline.specs.Lines.{field_then, cells_by, cells_in, masks_in, failure_in, symbols_in, line_in}

field_alike : {A : Type 0} (o : Option A) (rest : Option (List ℕ)) (f g : A → List ℕ → Option Form)
    → ((a : A) (w : List ℕ) → f a w ≡ none → g a w ≡ none) → field_then o rest f ≡ none → field_then o rest g ≡ none
field_alike none rest f g h e = refl
field_alike (some a) none f g h e = refl
field_alike (some a) (some w) f g h e = h a w e

module _ (n k m l : ℕ) where
  cells_alike : (a b : List ℕ) (o : Option (List ℕ)) → cells_by n k a b o ≡ none → cells_by m l a b o ≡ none
  cells_alike a b none e = refl
  cells_alike a b (some c) e = zero_one cc

  masks_alike : (a w : List ℕ) → masks_in n k a w ≡ none → masks_in m l a w ≡ none
  unfolding masks_in
  masks_alike a w =
      field_alike (parse_words 512 (up_to 32 w)) (past 32 w) (cells_in n k a) (cells_in m l a) (λ b v. cells_alike a b (parse_words 8192 v))

  pub any_numbers : (w : List ℕ) → failure_in n k w ≡ none → failure_in m l w ≡ none
  unfolding failure_in
  any_numbers w = field_alike (parse_words 512 (up_to 32 w)) (past 32 w) (masks_in n k) (masks_in m l) masks_alike

-- `65536 256 `, `18446744073709551615 0 ` and `18446744073709551616 0 ` before anything
over_the_value : (w : List ℕ) → line_in (54 ∷ 53 ∷ 53 ∷ 51 ∷ 54 ∷ 32 ∷ 50 ∷ 53 ∷ 54 ∷ 32 ∷ w) ≡ failure_in 65536 256 w
unfolding line_in symbols_in up_to past all_digits value_from
over_the_value w = refl

greatest : (w : List ℕ)
    → line_in (49 ∷ 56 ∷ 52 ∷ 52 ∷ 54 ∷ 55 ∷ 52 ∷ 52 ∷ 48 ∷ 55 ∷ 51 ∷ 55 ∷ 48 ∷ 57 ∷ 53 ∷ 53 ∷ 49 ∷ 54 ∷ 49 ∷ 53 ∷ 32 ∷ 48 ∷ 32 ∷ w)
    ≡ failure_in 18446744073709551615 0 w
unfolding line_in symbols_in up_to past all_digits value_from
greatest w = refl

one_more : (w : List ℕ)
    → line_in (49 ∷ 56 ∷ 52 ∷ 52 ∷ 54 ∷ 55 ∷ 52 ∷ 52 ∷ 48 ∷ 55 ∷ 51 ∷ 55 ∷ 48 ∷ 57 ∷ 53 ∷ 53 ∷ 49 ∷ 54 ∷ 49 ∷ 54 ∷ 32 ∷ 48 ∷ 32 ∷ w) ≡ none
unfolding line_in symbols_in up_to past all_digits value_from
one_more w = refl

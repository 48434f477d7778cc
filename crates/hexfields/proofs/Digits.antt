-- Bytes as hex digits: one more byte, how many digits there are, and that no field has a space in
-- it, whatever the case of its digits. Assumes nothing.
use mathlib.Core.Path.{◌≡◌, refl, sym, ap, ◌∙◌, subst}
use mathlib.Core.List.{List, [], ◌∷◌, ◌++◌, append_assoc, append-nil}
use Prim.Native.Nat.{ℕ, zero, suc, ◌+◌, ◌-◌, ◌*◌, ◌/◌, ◌%◌, ◌<◌}
use native.Mathlib.Numerals.{add-one}
use native.Mathlib.Omega.{arith}
use lib.Dec.{ltb}
use lib.ListN.{length, get_or, take, length-append}
use lib.Seq.{take-suc}
use Rattle.base.proofs.Tests.{by_test}
use Rattle.text.specs.Numerals.{decimal_below, decimal, hex_digit, hex}
use Rattle.text.proofs.Digits.{hex_length}
use Rattle.lines.proofs.Over.{Over, over-append}
use Rattle.fields.specs.Bytes.{within}
use Rattle.fields.specs.Claims.{digits_of, field_of, upper_case, SaysBytes}

pub digits_length : (b : List ℕ) → length (digits_of b) ≡ 2 * length b
unfolding digits_of
digits_length [] = refl
digits_length (x ∷ b) =
    let e = digits_length b in
    length-append (hex 2 x) (digits_of b) ∙ omega (arith, hex_length 2 x)

digits_append : (u v : List ℕ) → digits_of (u ++ v) ≡ digits_of u ++ digits_of v
unfolding digits_of
digits_append [] v = refl
digits_append (x ∷ u) v = rw (digits_append u v, append_assoc)

digits_one : (x : ℕ) → digits_of (x ∷ []) ≡ hex 2 x
unfolding digits_of
digits_one x = append-nil (hex 2 x)

pub digits_none : (b : List ℕ) → digits_of (take 0 b) ≡ []
unfolding digits_of
digits_none b = refl

pub digits_more : (b : List ℕ) (i : ℕ) → i < length b
    → digits_of (take (i + 1) b) ≡ digits_of (take i b) ++ hex 2 (get_or b i 0)
digits_more b i h =
    rw (add-one, take-suc b i 0 h) (digits_append (take i b) (get_or b i 0 ∷ []) ∙ ap (λ (x : List ℕ). digits_of (take i b) ++ x) (digits_one (get_or b i 0)))

-- ---- a digit is over 47, and `-` is 45
digit_over : (d : ℕ) → 32 < hex_digit d
digit_over d = by_test (ltb d 10) (λ e. rw e (omega arith)) (λ e. rw e (omega arith))

digits-over : (b : List ℕ) → Over 32 (digits_of b)
unfolding digits_of hex
digits-over [] = tt
digits-over (x ∷ b) = (digit_over (x / 16 % 16), (digit_over (x % 16), digits-over b))

pub field_over : (b : List ℕ) → Over 32 (field_of b)
field_over [] = (omega arith, tt)
field_over (x ∷ b) = digits-over (x ∷ b)

upper_over : (x : List ℕ) → Over 32 (upper_case x) → Over 32 x
upper_over [] a = tt
upper_over (c ∷ x) a = (
  by_test (within 97 102 c) (λ e. let low : 32 < c - 32 = rw e at a.0 in omega arith) (λ e. rw e at a.0),
  upper_over x a.1,
)

pub bytes_over : (x b : List ℕ) → SaysBytes x b → Over 32 x
bytes_over x b s = upper_over x (subst (Over 32) (sym s.0) (field_over b))

number_places : (places n : ℕ) → Over 32 (decimal_below places n)
unfolding decimal_below
number_places zero n = tt
number_places (suc places) n =
    by_test (ltb n 10)
    (λ e. rw e (omega arith, tt))
    (λ e. rw e (over-append 32 (decimal_below places (n / 10)) ((48 + n % 10) ∷ []) (number_places places (n / 10)) (omega arith, tt)))

pub number_over : (n : ℕ) → Over 32 (decimal n)
number_over n = number_places 20 n

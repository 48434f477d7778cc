-- A field says a number or bytes only if it is their field, but for leading zeros and the case of hex
-- digits. Assumes nothing.
--
-- A number is read from the left: what was read so far is zeros and then the digits of its value, and
-- it stays so with a digit more. Bytes are read pair by pair.
use mathlib.Core.Path.{◌≡◌, refl, sym, ap, ap₂, ◌∙◌, subst}
use mathlib.Core.Logic.{◌↔◌}
use mathlib.Core.Bool.{Bool, true, false, cond, ◌&&◌, and-eq-true_iff}
use mathlib.Core.List.{List, [], ◌∷◌, ◌++◌, append_assoc, append-nil}
use mathlib.Core.Option.{some}
use Prim.Native.Nat.{ℕ, zero, suc, ◌+◌, ◌*◌, ◌-◌, ◌/◌, ◌%◌, ◌≤◌, ◌<◌}
use native.Mathlib.Omega.{arith}
use borrow.Author.Tests.{lt-ltb, le-ltb, leb-true, leb-false, ltb-true, ltb-false, eqb-true, ne_eqb}
use lib.Dec.{leb, ltb, eqb}
use lib.ListN.{length, get_or, replicate, length-append, length-replicate}
use Rattle.base.proofs.Options.{none-some}
use Rattle.base.proofs.Tests.{by_test}
use Rattle.text.specs.Numerals.{decimal, decimal_below, hex_digit}
use Rattle.text.proofs.Digits.{one_digit, more_digits}
use Rattle.fields.specs.Numbers.{all_digits, value_from, is_number, parse_number}
use Rattle.fields.specs.Bytes.{within, hex_value, all_hex, pairs, is_bytes, is_no_bytes, parse_bytes}
use Rattle.fields.specs.Claims.{AllBytes, digits_of, field_of, SaysNumber, upper_case, SaysBytes}
use Rattle.fields.proofs.Digits.{said_from, said_short, said_whole}
use Rattle.fields.proofs.Pairs.{within_so, within_low, within_high}
use Rattle.fields.proofs.RoundTrip.{two_digits, number_round_trip, bytes_round_trip}

-- ---- numbers
-- w is zeros and then the digits of n, as many as there are places at most
abbrev Padded : ℕ → List ℕ → ℕ → Type 0
Padded places w n = (zeros : ℕ) × (w ≡ replicate zeros 48 ++ decimal_below places n)

-- one zero more, before or behind the others
zeros_more : (zeros : ℕ) → replicate {A = ℕ} zeros 48 ++ (48 ∷ []) ≡ replicate (suc zeros) 48
zeros_more zero = refl
zeros_more (suc zeros) = ap (λ (w : List ℕ). 48 ∷ w) (zeros_more zeros)

padded_more : (places : ℕ) (w : List ℕ) (n c : ℕ) → 48 ≤ c → c ≤ 57 → Padded (suc places) w n → Padded (suc (suc places)) (w ++ (c ∷ [])) (10 * n + (c - 48))
padded_more places w n c low high p =
    let m = 10 * n + (c - 48) in
    by_test (ltb m 10)
    (λ e.
    let l = ltb-true m 10 e in
    let none_yet : n ≡ 0 = omega arith in
    let digit : 48 + m ≡ c = omega arith in
    let before : w ≡ replicate (suc p.0) 48 = p.1 ∙ rw (none_yet, one_digit places 0 (omega arith)) (zeros_more p.0) in
    (suc p.0, ap₂ ◌++◌ before (sym (one_digit (suc places) m l ∙ ap (λ (x : ℕ). x ∷ []) digit))))
    (λ e.
    let l = ltb-false m 10 e in
    let tenth : m / 10 ≡ n = omega arith in
    let digit : 48 + m % 10 ≡ c = omega arith in
    let whole : decimal_below (suc (suc places)) m ≡ decimal_below (suc places) n ++ (c ∷ []) =
    more_digits (suc places) m l ∙ ap₂ (λ (x y : ℕ). decimal_below (suc places) x ++ (y ∷ [])) tenth digit in (
      p.0,
      ap (λ (v : List ℕ). v ++ (c ∷ [])) p.1
          ∙ append_assoc (replicate p.0 48) (decimal_below (suc places) n) (c ∷ [])
          ∙ ap (λ (v : List ℕ). replicate p.0 48 ++ v) (sym whole),
    ))

padded_on : (w v : List ℕ) (places n all : ℕ) → all ≡ suc places + length w → all_digits w ≡ true → Padded (suc places) v n → Padded all (v ++ w) (value_from n w)
unfolding all_digits value_from
padded_on [] v places n all is e p =
    let same : all ≡ suc places = omega (arith, is) in
    rw (same, append-nil v) p
padded_on (c ∷ w) v places n all is e p =
    let low = (and-eq-true_iff (leb 48 c) (leb c 57 && all_digits w)).0 e in
    let high = (and-eq-true_iff (leb c 57) (all_digits w)).0 low.1 in
    let on = padded_on w (v ++ (c ∷ [])) (suc places) (10 * n + (c - 48)) all (omega (arith, is)) high.1
    (padded_more places v n c (leb-true 48 c low.0) (leb-true c 57 high.0) p) in
    (on.0, sym (append_assoc v (c ∷ []) w) ∙ on.1)

padded : (x : List ℕ) → 1 ≤ length x → length x ≤ 20 → all_digits x ≡ true → Padded 20 x (value_from 0 x)
unfolding all_digits value_from
padded [] h l e = absurd (omega arith)
padded (c ∷ w) h l e =
    let low = (and-eq-true_iff (leb 48 c) (leb c 57 && all_digits w)).0 e in
    let high = (and-eq-true_iff (leb c 57) (all_digits w)).0 low.1 in
    let a = leb-true 48 c low.0 in
    let b = leb-true c 57 high.0 in
    let n = 10 * 0 + (c - 48) in
    let digit : 48 + n ≡ c = omega arith in
    padded_on w (c ∷ []) (19 - length w) n 20 (omega arith) high.1
    (0, sym (one_digit (19 - length w) n (omega arith) ∙ ap (λ (x : ℕ). x ∷ []) digit))

-- leading zeros say nothing
said_zeros : (zeros : ℕ) (w : List ℕ) → said_from 0 (replicate zeros 48 ++ w) ≡ said_from 0 w
unfolding said_from all_digits value_from
said_zeros zero w = refl
said_zeros (suc zeros) w = said_zeros zeros w

pub number_exactly : (x : List ℕ) (n : ℕ) → (parse_number x ≡ some n) ↔ SaysNumber x n
number_exactly x n = (only, so)
  where
    only : parse_number x ≡ some n → SaysNumber x n
    only e =
        by_test (is_number x)
        (λ t.
        let one = (and-eq-true_iff (leb 1 (length x)) (leb (length x) 20 && (all_digits x && leb (value_from 0 x) 18446744073709551615))).0 t in
        let two = (and-eq-true_iff (leb (length x) 20) (all_digits x && leb (value_from 0 x) 18446744073709551615)).0 one.1 in
        let three = (and-eq-true_iff (all_digits x) (leb (value_from 0 x) 18446744073709551615)).0 two.1 in
        let is : some (value_from 0 x) ≡ some n = rw t at e in
        let value : value_from 0 x ≡ n = cc in
        let p = padded x (leb-true 1 (length x) one.0) (leb-true (length x) 20 two.0) three.0 in (
          p.0,
          p.1 ∙ ap (λ (m : ℕ). replicate p.0 48 ++ decimal m) value,
          leb-true (length x) 20 two.0,
          subst (λ (m : ℕ). m ≤ 18446744073709551615) value (leb-true (value_from 0 x) 18446744073709551615 three.1),
        ))
        (λ f. none-some (rw f) e)

    so : SaysNumber x n → parse_number x ≡ some n
    so s =
        let d = decimal n in
        let again = number_round_trip n s.3 in
        let size : length x ≡ s.0 + length d =
        ap length s.1 ∙ length-append (replicate s.0 48) d ∙ ap (λ (m : ℕ). m + length d) (length-replicate s.0 48) in
        by_test (leb 1 (length d))
        (λ t.
        let some_digit = leb-true 1 (length d) t in
        let short = s.2 in
        said_whole x (omega arith) short
        ∙ ap (said_from 0) s.1
        ∙ said_zeros s.0 d
        ∙ sym (said_whole d some_digit (omega arith))
        ∙ again)
        (λ f. let none_there = leb-false 1 (length d) f in none-some (said_short d (omega arith)) again)

-- ---- bytes
abbrev upper : ℕ → ℕ
upper c = cond (within 97 102 c) (c - 32) c

between : (low high c : ℕ) → within low high c ≡ true → (low ≤ c) × (c ≤ high)
between low high c e = let both = (and-eq-true_iff (leb low c) (leb c high)).0 e in (leb-true low c both.0, leb-true c high both.1)

-- the digit of a hex digit's value is the digit in upper case
upper_digit : (c : ℕ) → hex_value c < 16 → hex_digit (hex_value c) ≡ upper c
unfolding hex_value
upper_digit c h =
    by_test (within 48 57 c)
    (λ e.
    let b = between 48 57 c e in
    rw (e, within_low 97 102 c (omega (arith, b)), lt-ltb (c - 48) 10 (omega (arith, b))) (omega (arith, b)))
    (λ e.
    by_test (within 65 70 c)
    (λ f.
    let b = between 65 70 c f in
    rw (e, f, within_low 97 102 c (omega (arith, b)), le-ltb (c - 55) 10 (omega (arith, b))) (omega (arith, b)))
    (λ f.
    by_test (within 97 102 c)
    (λ g.
    let b = between 97 102 c g in
    rw (e, f, g, le-ltb (c - 87) 10 (omega (arith, b))) (omega (arith, b)))
    (λ g. let other : 16 < 16 = rw (e, f, g) at h in absurd (omega (arith, other)))))

-- a byte in upper case has the same value, and is `-` exactly when it was
module _ (c : ℕ) where
  same : within 97 102 c ≡ false → upper c ≡ c
  same e = rw e

  upper_value : hex_value (upper c) ≡ hex_value c
  unfolding hex_value
  upper_value =
      by_test (within 97 102 c)
      (λ e.
      let b = between 97 102 c e in
      rw (e, within_high 48 57 (c - 32) (omega (arith, b)), within_so 65 70 (c - 32) (omega (arith, b)) (omega (arith, b)), within_high 48 57 c (omega (arith, b)), within_high 65 70 c (omega (arith, b)))
      (omega (arith, b)))
      (λ e. ap hex_value (same e))

  upper_dash : eqb (upper c) 45 ≡ eqb c 45
  upper_dash =
      by_test (within 97 102 c)
      (λ e.
      let b = between 97 102 c e in
      rw (e, ne_eqb (c - 32) 45 (λ f. omega (arith, b, f)), ne_eqb c 45 (λ f. omega (arith, b, f))))
      (λ e. rw e)

pub upper_length : (w : List ℕ) → length (upper_case w) ≡ length w
upper_length [] = refl
upper_length (c ∷ w) = ap suc (upper_length w)

upper_hex : (w : List ℕ) → all_hex (upper_case w) ≡ all_hex w
unfolding all_hex
upper_hex [] = refl
upper_hex (c ∷ w) = ap₂ (λ (v : ℕ) (t : Bool). ltb v 16 && t) (upper_value c) (upper_hex w)

upper_pairs : (w : List ℕ) → pairs (upper_case w) ≡ pairs w
unfolding pairs
upper_pairs [] = refl
upper_pairs (a ∷ []) = refl
upper_pairs (a ∷ b ∷ w) =
    ap₂ ◌∷◌ (ap₂ (λ (x y : ℕ). 16 * x + y) (upper_value a) (upper_value b)) (upper_pairs w)

upper_first : (w : List ℕ) → is_no_bytes (upper_case w) ≡ is_no_bytes w
upper_first [] = refl
upper_first (c ∷ w) = ap₂ (λ (n : ℕ) (t : Bool). eqb (suc n) 1 && t) (upper_length w) (upper_dash c)

upper_says : (w : List ℕ) → parse_bytes (upper_case w) ≡ parse_bytes w
unfolding parse_bytes
upper_says w = rw (upper_first w, upper_length w, upper_hex w, upper_pairs w)

-- pairs of digits in upper case are the digits of their bytes
digits_back : (w : List ℕ) → all_hex w ≡ true → length w % 2 ≡ 0 → (upper_case w ≡ digits_of (pairs w)) × AllBytes (pairs w)
unfolding all_hex pairs digits_of
digits_back [] h e = (refl, tt)
digits_back (a ∷ []) h e = absurd (omega arith)
digits_back (a ∷ b ∷ w) h e =
    let first = (and-eq-true_iff (ltb (hex_value a) 16) (ltb (hex_value b) 16 && all_hex w)).0 h in
    let second = (and-eq-true_iff (ltb (hex_value b) 16) (all_hex w)).0 first.1 in
    let high = ltb-true (hex_value a) 16 first.0 in
    let low = ltb-true (hex_value b) 16 second.0 in
    let rest = digits_back w second.1 (omega (arith, e)) in
    let x = 16 * hex_value a + hex_value b in
    let byte : x < 256 = omega arith in
    let is-high : x / 16 % 16 ≡ hex_value a = omega arith in
    let is-low : x % 16 ≡ hex_value b = omega arith in (
      ap₂ ◌∷◌ (sym (ap hex_digit is-high ∙ upper_digit a high)) (ap₂ ◌∷◌ (sym (ap hex_digit is-low ∙ upper_digit b low)) rest.0)
          ∙ sym (two_digits x (pairs w) byte),
      (byte, rest.1),
    )

-- at least one pair
field_back : (w : List ℕ) → 1 ≤ length w → all_hex w ≡ true → length w % 2 ≡ 0 → SaysBytes w (pairs w)
unfolding pairs
field_back [] l h e = absurd (omega arith)
field_back (a ∷ []) l h e = absurd (omega arith)
field_back (a ∷ b ∷ w) l h e = digits_back (a ∷ b ∷ w) h e

dash_back : (w : List ℕ) → is_no_bytes w ≡ true → SaysBytes w []
dash_back w t =
    let one = (and-eq-true_iff (eqb (length w) 1) (eqb (get_or w 0 0) 45)).0 t in
    (alone w (eqb-true (length w) 1 one.0) (eqb-true (get_or w 0 0) 45 one.1), tt)
  where
    alone : (w : List ℕ) → length w ≡ 1 → get_or w 0 0 ≡ 45 → upper_case w ≡ 45 ∷ []
    alone [] e d = absurd (omega (arith, e))
    alone (c ∷ []) e d = rw d
    alone (c ∷ x ∷ w) e d = absurd (omega (arith, e))

pub bytes_exactly : (x b : List ℕ) → (parse_bytes x ≡ some b) ↔ SaysBytes x b
unfolding parse_bytes
bytes_exactly x b = (
  (λ e.
      by_test (is_no_bytes x)
      (λ t.
      let is : some [] ≡ some b = rw t at e in
      let none_there : [] ≡ b = cc in
      subst (SaysBytes x) none_there (dash_back x t))
      (λ f.
      by_test (is_bytes x)
      (λ t.
      let one = (and-eq-true_iff (leb 1 (length x)) (eqb (length x % 2) 0 && all_hex x)).0 t in
      let two = (and-eq-true_iff (eqb (length x % 2) 0) (all_hex x)).0 one.1 in
      let is : some (pairs x) ≡ some b = rw (f, t) at e in
      let bytes : pairs x ≡ b = cc in
      subst (SaysBytes x) bytes (field_back x (leb-true 1 (length x) one.0) two.1 (eqb-true (length x % 2) 0 two.0)))
      (λ g. none-some (rw (f, g)) e))),
  λ s. sym (upper_says x) ∙ ap parse_bytes s.0 ∙ bytes_round_trip b s.1,
)

-- ---- a field as it is written says its value
pub own_number : (n : ℕ) → n ≤ 18446744073709551615 → SaysNumber (decimal n) n
own_number n h = (number_exactly (decimal n) n).0 (number_round_trip n h)

pub own_bytes : (b : List ℕ) → AllBytes b → SaysBytes (field_of b) b
own_bytes b a = (bytes_exactly (field_of b) b).0 (bytes_round_trip b a)

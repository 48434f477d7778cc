-- A field that is read byte by byte says what it says as a whole. Assumes nothing.
--
-- The route: from pairs of digits on, what a field says is the bytes so far and those of the pairs
-- to come, two bytes at a time (`from_even`); a field begins with a digit or with `-`, or is none.
use mathlib.Core.Path.{◌≡◌, refl, sym, ap, ◌∙◌}
use mathlib.Core.Bool.{Bool, true, false, cond, ◌&&◌, and-false}
use mathlib.Core.List.{List, [], ◌∷◌, ◌++◌, append_assoc, append-nil}
use mathlib.Core.Option.{Option, none, some}
use Prim.Native.Nat.{ℕ, suc, ◌+◌, ◌*◌, ◌%◌}
use native.Mathlib.Omega.{arith}
use borrow.Author.Tests.{eqb-true, ne_eqb, le-leb}
use lib.Dec.{eqb, leb}
use lib.ListN.{length}
use Rattle.base.proofs.Tests.{by_test, zero_one}
use Rattle.fields.specs.Bytes.{hex_value, all_hex, pairs, parse_bytes}
use Rattle.hexfields.specs.Fields.{nothing, dash, even, stray, is_digit, begun_by, says_now}

-- no field goes on where none begins
none_stray : (w : List ℕ) → says_now (begun_by stray w) ≡ none
none_stray [] = refl
none_stray (c ∷ w) = none_stray w

-- the bytes of w, where it is pairs of digits
abbrev pairs_by : Bool → Bool → List ℕ → Option (List ℕ)
pairs_by is-even is-hex bytes = cond (is-even && is-hex) (some bytes) none

not_hex : (t : Bool) (bytes : List ℕ) → pairs_by t false bytes ≡ none
not_hex t bytes = rw (and-false t)

two_more : (n : ℕ) → eqb (suc (suc n) % 2) 0 ≡ eqb (n % 2) 0
two_more n = let e : suc (suc n) % 2 ≡ n % 2 = omega arith in ap (λ (x : ℕ). eqb x 0) e

from_even : (bytes w : List ℕ)
    → says_now (begun_by (even bytes) w) ≡ pairs_by (eqb (length w % 2) 0) (all_hex w) (bytes ++ pairs w)
unfolding all_hex pairs
from_even bytes [] = ap some (sym (append-nil bytes))
from_even bytes (a ∷ []) = by_test (is_digit a) (λ e. rw e) (λ e. rw e)
from_even bytes (a ∷ b ∷ w) =
    by_test (is_digit a)
    (λ e.
    by_test (is_digit b)
    (λ f.
    let v : ℕ = 16 * hex_value a + hex_value b in
    rw (e, f)
    (from_even (bytes ++ (v ∷ [])) w
    ∙ ap (λ (t : Bool). pairs_by t (all_hex w) ((bytes ++ (v ∷ [])) ++ pairs w)) (sym (two_more (length w)))
    ∙ ap (λ (l : List ℕ). pairs_by (eqb (suc (suc (length w)) % 2) 0) (all_hex w) l) (append_assoc bytes (v ∷ []) (pairs w))))
    (λ f. rw (e, f) (none_stray w ∙ sym (not_hex (eqb (suc (suc (length w)) % 2) 0) _))))
    (λ e. rw e (none_stray w ∙ sym (not_hex (eqb (suc (suc (length w)) % 2) 0) _)))

-- `-` is no digit
dash_stray : (c : ℕ) → is_digit c ≡ true → eqb c 45 ≡ false
unfolding hex_value
dash_stray c e = ne_eqb c 45 (λ d. let z : is_digit 45 ≡ true = rw d at e in zero_one cc)

-- what begins with no digit and no `-` is no field
no_field : (c : ℕ) (w : List ℕ) → is_digit c ≡ false → eqb (length (c ∷ w)) 1 && eqb c 45 ≡ false → parse_bytes (c ∷ w) ≡ none
unfolding parse_bytes all_hex
no_field c w e d =
    rw (d, e, and-false (eqb (suc (length w) % 2) 0), and-false (leb 1 (suc (length w))))

from_digit : (c : ℕ) (w : List ℕ) → is_digit c ≡ true → says_now (begun_by nothing (c ∷ w)) ≡ parse_bytes (c ∷ w)
unfolding parse_bytes
from_digit c w e =
    let same : begun_by nothing (c ∷ w) ≡ begun_by (even []) (c ∷ w) = rw e in
    ap says_now same
    ∙ from_even [] (c ∷ w)
    ∙ rw (dash_stray c e, and-false (eqb (suc (length w)) 1), le-leb 1 (suc (length w)) (omega arith))

from_dash : (w : List ℕ) → says_now (begun_by dash w) ≡ parse_bytes (45 ∷ w)
unfolding parse_bytes hex_value
from_dash [] = refl
from_dash (c ∷ w) = none_stray w ∙ sym (no_field 45 (c ∷ w) refl (rw (ne_eqb (suc (suc (length w))) 1 (λ e. omega arith))))

pub whole : (w : List ℕ) → says_now (begun_by nothing w) ≡ parse_bytes w
unfolding parse_bytes
whole [] = refl
whole (c ∷ w) =
    by_test (is_digit c)
    (λ e. from_digit c w e)
    (λ e.
    by_test (eqb c 45)
    (λ d.
    let same : begun_by nothing (c ∷ w) ≡ begun_by dash w = rw (e, d) in
    ap says_now same ∙ from_dash w ∙ ap (λ (x : ℕ). parse_bytes (x ∷ w)) (sym (eqb-true c 45 d)))
    (λ d.
    let same : begun_by nothing (c ∷ w) ≡ begun_by stray w = rw (e, d) in
    ap says_now same
    ∙ none_stray w
    ∙ sym (no_field c w e (rw (d, and-false (eqb (suc (length w)) 1))))))

-- Reading the field of 16-bit numbers gives them again. Assumes nothing.
use mathlib.Core.Path.{◌≡◌, refl, ap, ◌∙◌}
use mathlib.Core.List.{List, [], ◌∷◌}
use mathlib.Core.Option.{some}
use Prim.Native.Nat.{ℕ, zero, suc, ◌+◌, ◌*◌, ◌%◌, ◌≤◌}
use native.Mathlib.Omega.{arith}
use lib.ListN.{length, get_or}
use borrow.Author.Tests.{eq-eqb, le-leb}
use Rattle.base.specs.Lists.{list_from}
use Rattle.base.proofs.Lists.{same_list}
use Rattle.fields.specs.Claims.{AllBytes, field_of}
use Rattle.fields.proofs.Claims as fields
use Rattle.wordfields.specs.Words.{word_at, words_by, parse_words}
use Rattle.wordfields.specs.Claims.{AllWords, bytes_of, Claims}

all_bytes : (l : List ℕ) → AllWords l → AllBytes (bytes_of l)
unfolding bytes_of
all_bytes [] a = tt
all_bytes (x ∷ l) a = (omega arith, (omega (arith, a.0), all_bytes l a.1))

twice : (l : List ℕ) → length (bytes_of l) ≡ 2 * length l
unfolding bytes_of
twice [] = refl
twice (x ∷ l) = omega (arith, twice l)

word_at_lem : (l : List ℕ) (i : ℕ) → word_at (bytes_of l) i ≡ get_or l i 0
unfolding bytes_of
word_at_lem [] i = omega arith
word_at_lem (x ∷ l) zero = omega arith
word_at_lem (x ∷ l) (suc i) =
    let low : 2 * suc i ≡ suc (suc (2 * i)) = omega arith in
    let high : suc (suc (2 * i)) + 1 ≡ suc (suc (2 * i + 1)) = omega arith in
    rw (low, high) (word_at_lem l i)

words_round_trip : (most : ℕ) (l : List ℕ) → length l ≤ most → AllWords l
    → parse_words most (field_of (bytes_of l)) ≡ some (list_from 0 most (λ i. get_or l i 0))
words_round_trip most l few a =
    let even : length (bytes_of l) % 2 ≡ 0 = omega (arith, twice l) in
    let room : length (bytes_of l) ≤ 2 * most = omega (arith, twice l) in
    ap (words_by most) ((fields.claims).bytes_round_trip (bytes_of l) (all_bytes l a))
    ∙ rw (eq-eqb (length (bytes_of l) % 2) 0 even, le-leb (length (bytes_of l)) (2 * most) room)
    (ap some (same_list most (word_at (bytes_of l)) (λ i. get_or l i 0) (λ c b. word_at_lem l c)))

pub claims : Claims
claims = record { words_round_trip = words_round_trip }

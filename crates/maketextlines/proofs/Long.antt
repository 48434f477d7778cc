-- A line that is longer than any in the grammar is malformed: one of its fields has too many digits,
-- or it has too few spaces. Assumes nothing.
--
--   long_number   a field of more than 20 bytes is no number
--   past_length   the bytes before a space, the space, and those behind it
--   too_long      a line of more than 62 bytes is malformed
use mathlib.Core.Path.{◌≡◌, refl}
use mathlib.Core.Bool.{Bool, true, false, ◌&&◌}
use mathlib.Core.List.{List, [], ◌∷◌}
use mathlib.Core.Option.{Option, none, some}
use Prim.Native.Nat.{ℕ, suc, ◌+◌, ◌<◌}
use native.Mathlib.Omega.{arith}
use lib.Dec.{leb, eqb}
use lib.ListN.{length}
use borrow.Author.Tests.{lt-leb, leb-true, leb-false}
use Rattle.base.proofs.Tests.{by_test, zero_one}
use Rattle.lines.specs.Splitting.{up_to, past}
use Rattle.fields.specs.Numbers.{parse_number}
use Rattle.maketextlines.specs.Lines.{malformed, up_to_most, makes_by, length_fields, seed_fields, line_in}

never : (a : Bool) → a && false ≡ false
never true = refl
never false = refl

pub long_number : (w : List ℕ) → 20 < length w → parse_number w ≡ none
long_number w h = rw (lt-leb (length w) 20 h, never (leb 1 (length w)))

pub past_length : (w v : List ℕ) → past 32 w ≡ some v → length w ≡ length (up_to 32 w) + suc (length v)
unfolding up_to past
past_length [] v e = zero_one cc
past_length (x ∷ w) v e =
    by_test (eqb x 32)
    (λ t. let same : w ≡ v = cc in rw (t, same) (omega arith))
    (λ t. let rest : past 32 w ≡ some v = cc in rw t (omega (arith, past_length w v rest)))

-- ---- a field too long
no_seed : (k n : Option ℕ) → makes_by k none n ≡ malformed
no_seed none n = refl
no_seed (some k) n = refl

no_length : (k seed : Option ℕ) → makes_by k seed (up_to_most 65536 none) ≡ malformed
no_length none seed = refl
no_length (some k) none = refl
no_length (some k) (some seed) = refl

length_long : (k seed : List ℕ) (o : Option (List ℕ)) → ((w : List ℕ) → o ≡ some w → 41 < length seed + suc (length w))
    → length_fields k seed o ≡ malformed
length_long k seed none h = refl
length_long k seed (some w) h =
    let all = h w refl in
    by_test (leb (length seed) 20)
    (λ t.
    let short = leb-true (length seed) 20 t in
    rw (long_number w (omega arith)) (no_length (parse_number k) (parse_number seed)))
    (λ t. rw (long_number seed (leb-false (length seed) 20 t)) (no_seed (parse_number k) (up_to_most 65536 (parse_number w))))

first_long : (k seed : List ℕ) (o : Option (List ℕ)) → 20 < length k → length_fields k seed o ≡ malformed
first_long k seed none h = refl
first_long k seed (some w) h = rw (long_number k h)

seed_long : (k : List ℕ) (o : Option (List ℕ)) → ((w : List ℕ) → o ≡ some w → 62 < length k + suc (length w)) → seed_fields k o ≡ malformed
seed_long k none h = refl
seed_long k (some w) h =
    let all = h w refl in
    by_test (leb (length k) 20)
    (λ t.
    let short = leb-true (length k) 20 t in
    length_long k (up_to 32 w) (past 32 w) (λ v e. omega (arith, past_length w v e)))
    (λ t. first_long k (up_to 32 w) (past 32 w) (leb-false (length k) 20 t))

pub too_long : (w : List ℕ) → 62 < length w → line_in w ≡ malformed
unfolding line_in
too_long w h = seed_long (up_to 32 w) (past 32 w) (λ v e. omega (arith, past_length w v e))

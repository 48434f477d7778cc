-- The one proof of all that specs/Claims.antt claims. Assumes nothing.
use mathlib.Core.Path.{◌≡◌, refl}
use mathlib.Core.List.{List, [], ◌∷◌, ◌++◌}
use mathlib.Core.Option.{Option, none, some}
use Prim.Native.Nat.{ℕ, zero, suc, ◌/◌, ◌≤◌}
use native.Mathlib.Omega.{arith}
use lib.Dec.{ltb}
use lib.ListN.{length, length-append}
use borrow.Author.Tests.{le-leb}
use Rattle.base.proofs.Tests.{by_test}
use Rattle.text.specs.Numerals.{decimal_below, decimal}
use Rattle.lines.specs.Splitting.{up_to, past}
use Rattle.lines.proofs.Over.{over_up, over_past}
use Rattle.hexfields.proofs.Digits.{number_over}
use Rattle.fields.specs.Claims.{field_of}
use Rattle.fields.proofs.Claims as fields
use Rattle.madetexts.specs.Values.{made_text}
use Rattle.madetexts.specs.Making.{made_number}
use Rattle.madetexts.proofs.Claims as madetexts
use Rattle.maketextlines.specs.Lines.{Meaning, makes, malformed, line_in}
use Rattle.maketextlines.specs.Answers.{answer_by, answer_in, answer_to}
use Rattle.maketextlines.specs.Claims.{line_of, Claims}
use Rattle.maketextlines.proofs.Writing.{field_most, most_rest}
use Rattle.maketextlines.proofs.Exact.{worked, line_exactly, malformed_exactly}
use Rattle.maketextlines.proofs.Long.{too_long}

-- ---- a line for each text
line_round_trip : (k seed n : ℕ) → k ≤ 18446744073709551615 → seed ≤ 18446744073709551615 → n ≤ 65536 → line_in (line_of k seed n) ≡ makes k seed n
unfolding line_in
line_round_trip k seed n h l m =
    let rest = decimal seed ++ (32 ∷ decimal n) in
    rw (over_up 32 rest (decimal k) (number_over k), over_past 32 rest (decimal k) (number_over k), over_up 32 (decimal n) (decimal seed) (number_over seed), over_past 32 (decimal n) (decimal seed) (number_over seed), (fields.claims).number_round_trip k h, (fields.claims).number_round_trip seed l, (fields.claims).number_round_trip n (omega arith), le-leb n 65536 m)

-- ---- the length of an answer
digits_most : (places n : ℕ) → length (decimal_below places n) ≤ places
unfolding decimal_below
digits_most zero n = omega arith
digits_most (suc places) n =
    by_test (ltb n 10)
    (λ e. rw e (omega arith))
    (λ e. rw (e, length-append) (omega (arith, digits_most places (n / 10))))

answer_most : (o : Option ℕ) (text : List ℕ) → length text ≤ 65536 → length (answer_by o text) ≤ 131073
answer_most none text h = omega (arith, length-append (field_of text) (10 ∷ []), field_most text h)
answer_most (some x) text h = omega (arith, length-append (decimal x) (10 ∷ []), digits_most 20 x)

in_most : (m : Meaning) → ((k seed n : ℕ) → m ≡ makes k seed n → n ≤ 65536) → length (answer_in m) ≤ 131073
in_most (makes k seed n) h =
    answer_most (made_number k seed) (made_text k seed n) (omega (arith, (madetexts.claims).long k seed n, h k seed n refl))
in_most malformed h = omega arith

fits : (w : List ℕ) → length (answer_to w) ≤ 131073
unfolding line_in
fits w = in_most (line_in w) (λ k seed n e. most_rest (up_to 32 w) (past 32 w) k seed n e)

empty : line_in [] ≡ malformed
unfolding line_in past
empty = refl

pub claims : Claims
claims = record {
  line_exactly = line_exactly;
  malformed_exactly = malformed_exactly;
  worked = worked;
  line_round_trip = line_round_trip;
  empty = empty;
  too_long = too_long;
  fits = fits;
}

-- A line makes a text exactly when it is three numbers with a space between each two; and a line
-- worked by hand. Assumes nothing.
--
--   Meant l m     what the line l is where it means m
--   …-meant       it is so, by what its fields say
use mathlib.Core.Path.{◌≡◌, refl, sym, ap, ◌∙◌, subst}
use mathlib.Core.Logic.{◌↔◌}
use mathlib.Core.List.{List, ◌∷◌, ◌++◌}
use mathlib.Core.Option.{Option, none, some}
use Prim.Native.Nat.{ℕ, zero, suc}
use native.Mathlib.Omega.{arith}
use borrow.Author.Tests.{le-leb, leb-true}
use lib.Dec.{leb}
use lib.ListN.{replicate}
use Rattle.base.proofs.Tests.{zero_one, by_test}
use Rattle.text.specs.Numerals.{decimal, hex}
use Rattle.lines.specs.Splitting.{up_to, past}
use Rattle.lines.proofs.Over.{Over, over-append, over_up, over_past}
use Rattle.lines.proofs.Splits.{past_whole}
use Rattle.fields.specs.Numbers.{all_digits, value_from, parse_number}
use Rattle.fields.specs.Claims.{digits_of, SaysNumber}
use Rattle.fields.proofs.Claims as fields
use Rattle.hexfields.proofs.Digits.{number_over}
use Rattle.madetexts.specs.Values.{next_value, made_text}
use Rattle.maketextlines.specs.Lines.{Meaning, makes, malformed, up_to_most, makes_by, length_fields, seed_fields, line_in}
use Rattle.maketextlines.specs.Answers.{answer_to}
use Rattle.maketextlines.specs.Worked.{six_line, six_answer}
use Rattle.maketextlines.specs.Claims.{SaysText}

pub worked : answer_to six_line ≡ six_answer
unfolding line_in up_to past all_digits value_from next_value made_text digits_of hex
worked = refl

-- ---- from a line to what it means
abbrev Meant : List ℕ → Meaning → Type 0
Meant l (makes k seed n) = SaysText l k seed n
Meant l malformed = Unit {0}

module _ (l x y z : List ℕ) (is : l ≡ x ++ (32 ∷ (y ++ (32 ∷ z)))) where
  length_meant : (k seed : ℕ) → parse_number x ≡ some k → parse_number y ≡ some seed → (o : Option ℕ) → parse_number z ≡ o
      → Meant l (makes_by (some k) (some seed) (up_to_most 65536 o))
  length_meant k seed e f none g = tt
  length_meant k seed e f (some n) g =
      by_test (leb n 65536)
      (λ t.
      rw t
      (x, y, z, is, ((fields.claims).number_exactly x k).0 e, ((fields.claims).number_exactly y seed).0 f, ((fields.claims).number_exactly z n).0 g, leb-true n 65536 t))
      (λ t. rw t tt)

  seed_meant : (k : ℕ) → parse_number x ≡ some k → (o : Option ℕ) → parse_number y ≡ o
      → Meant l (makes_by (some k) o (up_to_most 65536 (parse_number z)))
  seed_meant k e none f = tt
  seed_meant k e (some seed) f = length_meant k seed e f (parse_number z) refl

  symbols_meant : (o : Option ℕ) → parse_number x ≡ o → Meant l (makes_by o (parse_number y) (up_to_most 65536 (parse_number z)))
  symbols_meant none e = tt
  symbols_meant (some k) e = seed_meant k e (parse_number y) refl

behind_meant : (l x w : List ℕ) → l ≡ x ++ (32 ∷ w) → (o : Option (List ℕ)) → past 32 w ≡ o → Meant l (length_fields x (up_to 32 w) o)
behind_meant l x w is none e = tt
behind_meant l x w is (some z) e =
    symbols_meant l x (up_to 32 w) z (is ∙ ap (λ (v : List ℕ). x ++ (32 ∷ v)) (past_whole 32 w z e)) (parse_number x) refl

first_meant : (l : List ℕ) (o : Option (List ℕ)) → past 32 l ≡ o → Meant l (seed_fields (up_to 32 l) o)
first_meant l none e = tt
first_meant l (some w) e = behind_meant l (up_to 32 l) w (past_whole 32 l w e) (past 32 w) refl

meant : (l : List ℕ) → Meant l (line_in l)
unfolding line_in
meant l = first_meant l (past 32 l) refl

-- ---- and back: a digit is above a space
over_zeros : (zeros : ℕ) → Over 32 (replicate zeros 48)
over_zeros zero = tt
over_zeros (suc zeros) = (omega arith, over_zeros zeros)

says_over : (x : List ℕ) (n : ℕ) → SaysNumber x n → Over 32 x
says_over x n s = subst (Over 32) (sym s.1) (over-append 32 (replicate s.0 48) (decimal n) (over_zeros s.0) (number_over n))

three_fields : (x y z : List ℕ) → Over 32 x → Over 32 y
    → line_in (x ++ (32 ∷ (y ++ (32 ∷ z)))) ≡ makes_by (parse_number x) (parse_number y) (up_to_most 65536 (parse_number z))
unfolding line_in
three_fields x y z h i =
    rw (over_up 32 (y ++ (32 ∷ z)) x h, over_past 32 (y ++ (32 ∷ z)) x h, over_up 32 z y i, over_past 32 z y i)

said : (l : List ℕ) (k seed n : ℕ) → SaysText l k seed n → line_in l ≡ makes k seed n
said l k seed n s =
    let x = s.0 in
    let y = s.1 in
    let z = s.2 in
    ap line_in s.3
    ∙ three_fields x y z (says_over x k s.4) (says_over y seed s.5)
    ∙ rw (((fields.claims).number_exactly x k).1 s.4, ((fields.claims).number_exactly y seed).1 s.5, ((fields.claims).number_exactly z n).1 s.6, le-leb n 65536 s.7)

pub line_exactly : (l : List ℕ) (k seed n : ℕ) → (line_in l ≡ makes k seed n) ↔ SaysText l k seed n
line_exactly l k seed n = (λ e. subst (Meant l) e (meant l), said l k seed n)

other : (l : List ℕ) (m : Meaning) → line_in l ≡ m → ((k seed n : ℕ) → SaysText l k seed n → ⊥) → m ≡ malformed
other l (makes k seed n) e o = absurd (o k seed n ((line_exactly l k seed n).0 e))
other l malformed e o = refl

pub malformed_exactly : (l : List ℕ) → (line_in l ≡ malformed) ↔ ((k seed n : ℕ) → SaysText l k seed n → ⊥)
malformed_exactly l = (
  (λ e k seed n s. let t : makes k seed n ≡ malformed = sym ((line_exactly l k seed n).1 s) ∙ e in zero_one cc),
  λ o. other l (line_in l) refl o,
)

-- A line means a call exactly when it is that call's line, but for the case of hex digits; the answers
-- worked by hand. Assumes nothing.
--
--   Meant l o     what the line l is where it means o
--   …-meant       it is so, by the word with which it begins and by what its field says
use mathlib.Core.Path.{◌≡◌, refl, ap, ◌∙◌, subst}
use mathlib.Core.Logic.{◌↔◌}
use mathlib.Core.Bool.{Bool, true, false, cond}
use mathlib.Core.List.{List, [], ◌++◌}
use mathlib.Core.Option.{Option, none, some}
use Prim.Native.Nat.{ℕ, ◌≤◌}
use native.Mathlib.Omega.{arith}
use borrow.Author.Tests.{eqb-true, ne_eqb}
use lib.Dec.{eqb}
use lib.ListN.{length, drop, drop_of_length-le}
use Rattle.base.proofs.Options.{none-some}
use Rattle.base.proofs.Tests.{by_test}
use Rattle.text.specs.Numerals.{decimal_below, hex}
use Rattle.lines.specs.Splitting.{begins as begins_with}
use Rattle.lines.proofs.Splits.{begins_whole}
use Rattle.fields.specs.Bytes.{parse_bytes}
use Rattle.fields.specs.Claims.{SaysBytes}
use Rattle.fields.proofs.Exact.{own_bytes}
use Rattle.fields.proofs.Claims as fields
use Rattle.followcalls.specs.Calls.{Call, forgets, begins, follows}
use Rattle.followlines.specs.Lines.{rule_word, next_word, call_of, call_by, line_in}
use Rattle.followlines.specs.Worked.{Written}
use Rattle.followlines.specs.Claims.{word_of, Fits, fields_of, line_of, SaysFields, SaysLine, Claims}

abbrev Meant : List ℕ → Option Call → Type 0
Meant l none = Unit {0}
Meant l (some c) = SaysLine l c

-- ---- from a line to what it means
fields_by : (rule : Bool) (x b : List ℕ) → SaysBytes x b → SaysFields x (call_of rule b)
fields_by true x b s = s
fields_by false x b s = s

call_meant : (rule : Bool) (l x : List ℕ) → ((b : List ℕ) → l ≡ word_of (call_of rule b) ++ x) → (o : Option (List ℕ)) → parse_bytes x ≡ o → Meant l (call_by rule o)
call_meant rule l x is none e = tt
call_meant rule l x is (some b) e = (x, is b, fields_by rule x b (((fields.claims).bytes_exactly x b).0 e))

meant : (l : List ℕ) → Meant l (line_in l)
unfolding line_in
meant l =
    by_test (eqb (length l) 0) (λ t. rw t ([], drop_of_length-le l {i = 0} (omega (arith, eqb-true (length l) 0 t)), refl)) (λ some_byte.
    by_test (begins_with rule_word l) (λ t. rw (some_byte, t) (call_meant true l (drop 5 l) (λ b. begins_whole rule_word l t) (parse_bytes (drop 5 l)) refl)) (λ no_rule_lem.
    by_test (begins_with next_word l)
    (λ t. rw (some_byte, no_rule_lem, t) (call_meant false l (drop 5 l) (λ b. begins_whole next_word l t) (parse_bytes (drop 5 l)) refl))
    (λ no-next. rw (some_byte, no_rule_lem, no-next) tt)))

-- ---- and back
not_empty : (w : List ℕ) → 1 ≤ length w
    → line_in w ≡ cond (begins_with rule_word w) (call_by true (parse_bytes (drop 5 w))) (cond (begins_with next_word w) (call_by false (parse_bytes (drop 5 w))) none)
unfolding line_in
not_empty w h = rw (ne_eqb (length w) 0 (λ e. omega arith))

said : (c : Call) (x : List ℕ) → SaysFields x c → line_in (word_of c ++ x) ≡ some c
unfolding line_in begins_with
said forgets x s = ap line_in s
said (begins f) x s = not_empty (word_of (begins f) ++ x) (omega arith) ∙ ap (call_by true) (((fields.claims).bytes_exactly x f).1 s)
said (follows w) x s = not_empty (word_of (follows w) ++ x) (omega arith) ∙ ap (call_by false) (((fields.claims).bytes_exactly x w).1 s)

line_exactly : (l : List ℕ) (c : Call) → (line_in l ≡ some c) ↔ SaysLine l c
line_exactly l c = (λ e. subst (Meant l) e (meant l), λ s. ap line_in s.1 ∙ said c s.0 s.2)

other : (l : List ℕ) (o : Option Call) → line_in l ≡ o → ((c : Call) → SaysLine l c → ⊥) → o ≡ none
other l none e n = refl
other l (some c) e n = absurd (n c ((line_exactly l c).0 e))

malformed_exactly : (l : List ℕ) → (line_in l ≡ none) ↔ ((c : Call) → SaysLine l c → ⊥)
malformed_exactly l = (λ e c s. none-some e ((line_exactly l c).1 s), λ n. other l (line_in l) refl n)

-- ---- every call has a line
own_fields : (c : Call) → Fits c → SaysFields (fields_of c) c
own_fields forgets a = refl
own_fields (begins f) a = own_bytes f a
own_fields (follows w) a = own_bytes w a

-- ---- the answers of specs/Worked.antt, by computation
written_worked : Written
unfolding decimal_below hex
written_worked = record { no_rule_lem = refl; taken = refl; accepts = refl; can_still = refl; lost = refl; number = refl; no_meaning = refl }

pub claims : Claims
claims = record {
  line_exactly = line_exactly;
  malformed_exactly = malformed_exactly;
  line_round_trip = λ c a. (line_exactly (line_of c) c).1 (fields_of c, refl, own_fields c a);
  answers_written = written_worked;
}

-- A line means a call exactly when it is that call's line, but for the case of hex digits. Assumes
-- nothing.
--
--   Meant l o     what the line l is where it means o
--   …-meant       it is so, by the word with which it begins and by what its fields say
use mathlib.Core.Path.{◌≡◌, refl, ap, ◌∙◌, subst}
use mathlib.Core.Logic.{◌↔◌}
use mathlib.Core.Bool.{cond}
use mathlib.Core.List.{List, [], ◌∷◌, ◌++◌}
use mathlib.Core.Option.{Option, none, some}
use Prim.Native.Nat.{ℕ, ◌≤◌}
use native.Mathlib.Omega.{arith}
use borrow.Author.Tests.{eqb-true, ne_eqb}
use lib.Dec.{eqb}
use lib.ListN.{length, drop, drop_of_length-le}
use Rattle.base.proofs.Options.{none-some}
use Rattle.base.proofs.Tests.{by_test}
use Rattle.lines.specs.Splitting.{begins, up_to, past}
use Rattle.lines.proofs.Over.{Over, over_up, over_past}
use Rattle.lines.proofs.Splits.{begins_whole, past_whole}
use Rattle.fields.specs.Bytes.{parse_bytes}
use Rattle.fields.proofs.Exact.{own_bytes}
use Rattle.fields.proofs.Claims as fields
use Rattle.hexfields.proofs.Digits.{bytes_over}
use Rattle.mappings.specs.Mappings.{Value}
use Rattle.maptext.specs.MappingText.{mapping_text, parse_mapping}
use Rattle.maptext.specs.Claims.{SaysMapping}
use Rattle.maptext.proofs.RoundTrip as maptext
use Rattle.mapcalls.specs.Calls.{Call, forgets, builds, runs, composes, asks}
use Rattle.maplines.specs.Lines.{build_word, run_word, compose_word, verdict_word, build_by, run_by, ask_by, compose_by, compose_fields, ask_in, line_in}
use Rattle.maplines.specs.Claims.{word_of, Fits, fields_of, line_of, SaysFields, SaysLine, Claims}

abbrev Meant : List ℕ → Option Call → Type 0
Meant l none = Unit {0}
Meant l (some c) = SaysLine l c

-- ---- from a line to what it means
build_meant : (l x : List ℕ) → l ≡ build_word ++ x → (o : Option (List ℕ)) → parse_bytes x ≡ o → Meant l (build_by o)
build_meant l x is none e = tt
build_meant l x is (some f) e = (x, is, ((fields.claims).bytes_exactly x f).0 e)

run_meant : (l x : List ℕ) → l ≡ run_word ++ x → (o : Option (List ℕ)) → parse_bytes x ≡ o → Meant l (run_by o)
run_meant l x is none e = tt
run_meant l x is (some w) e = (x, is, ((fields.claims).bytes_exactly x w).0 e)

ask_meant : (l x : List ℕ) → l ≡ verdict_word ++ x → (o : Option (List ℕ)) → parse_mapping x ≡ o → Meant l (ask_by o)
ask_meant l x is none e = tt
ask_meant l x is (some f) e = (x, is, ((maptext.claims).mapping_exactly x f).0 e)

module _ (l x y : List ℕ) (is : l ≡ compose_word ++ (x ++ (32 ∷ y))) where
  later_meant : (f : List ℕ) → parse_mapping x ≡ some f → (o : Option (List ℕ)) → parse_mapping y ≡ o → Meant l (compose_by (some f) o)
  later_meant f e none h = tt
  later_meant f e (some g) h =
      (x ++ (32 ∷ y), is, (x, y, refl, ((maptext.claims).mapping_exactly x f).0 e, ((maptext.claims).mapping_exactly y g).0 h))

  earlier_meant : (o : Option (List ℕ)) → parse_mapping x ≡ o → Meant l (compose_by o (parse_mapping y))
  earlier_meant none e = tt
  earlier_meant (some f) e = later_meant f e (parse_mapping y) refl

compose_meant : (l w : List ℕ) → l ≡ compose_word ++ w → (o : Option (List ℕ)) → past 32 w ≡ o → Meant l (compose_fields (up_to 32 w) o)
compose_meant l w is none e = tt
compose_meant l w is (some v) e =
    earlier_meant l (up_to 32 w) v (is ∙ ap (λ (u : List ℕ). compose_word ++ u) (past_whole 32 w v e)) (parse_mapping (up_to 32 w)) refl

same_profile_meant : (l : List ℕ) → Meant l (ask_in l)
unfolding ask_in
same_profile_meant l =
    by_test (begins run_word l) (λ t. rw t (run_meant l (drop 4 l) (begins_whole run_word l t) (parse_bytes (drop 4 l)) refl)) (λ no_run.
    by_test (begins compose_word l) (λ t. rw (no_run, t) (compose_meant l (drop 8 l) (begins_whole compose_word l t) (past 32 (drop 8 l)) refl)) (λ no-compose.
    by_test (begins verdict_word l)
    (λ t. rw (no_run, no-compose, t) (ask_meant l (drop 8 l) (begins_whole verdict_word l t) (parse_mapping (drop 8 l)) refl))
    (λ no_verdict. rw (no_run, no-compose, no_verdict) tt)))

meant : (l : List ℕ) → Meant l (line_in l)
unfolding line_in
meant l =
    by_test (eqb (length l) 0) (λ t. rw t ([], drop_of_length-le l {i = 0} (omega (arith, eqb-true (length l) 0 t)), refl)) (λ some_byte.
    by_test (begins build_word l)
    (λ t. rw (some_byte, t) (build_meant l (drop 6 l) (begins_whole build_word l t) (parse_bytes (drop 6 l)) refl))
    (λ no-build. rw (some_byte, no-build) (same_profile_meant l)))

-- ---- and back: no hex digit is a space
not_empty : (w : List ℕ) → 1 ≤ length w → line_in w ≡ cond (begins build_word w) (build_by (parse_bytes (drop 6 w))) (ask_in w)
unfolding line_in
not_empty w h = rw (ne_eqb (length w) 0 (λ e. omega arith))

two_fields : (y z : List ℕ) → Over 32 y
    → compose_fields (up_to 32 (y ++ (32 ∷ z))) (past 32 (y ++ (32 ∷ z))) ≡ compose_by (parse_mapping y) (parse_mapping z)
two_fields y z h = rw (over_up 32 z y h, over_past 32 z y h)

said : (c : Call) (x : List ℕ) → SaysFields x c → line_in (word_of c ++ x) ≡ some c
unfolding line_in ask_in begins
said forgets x s = ap line_in s
said (builds f) x s = not_empty (word_of (builds f) ++ x) (omega arith) ∙ ap build_by (((fields.claims).bytes_exactly x f).1 s)
said (runs w) x s = not_empty (word_of (runs w) ++ x) (omega arith) ∙ ap run_by (((fields.claims).bytes_exactly x w).1 s)
said (composes f g) x s =
    let y = s.0 in
    let z = s.1 in
    not_empty (word_of (composes f g) ++ x) (omega arith)
    ∙ ap (λ (v : List ℕ). compose_fields (up_to 32 v) (past 32 v)) s.2
    ∙ two_fields y z (bytes_over y f (maptext.as_bytes y f s.3))
    ∙ rw (((maptext.claims).mapping_exactly y f).1 s.3, ((maptext.claims).mapping_exactly z g).1 s.4)
said (asks f) x s = not_empty (word_of (asks f) ++ x) (omega arith) ∙ ap ask_by (((maptext.claims).mapping_exactly x f).1 s)

line_exactly : (l : List ℕ) (c : Call) → (line_in l ≡ some c) ↔ SaysLine l c
line_exactly l c = (λ e. subst (Meant l) e (meant l), λ s. ap line_in s.1 ∙ said c s.0 s.2)

other : (l : List ℕ) (o : Option Call) → line_in l ≡ o → ((c : Call) → SaysLine l c → ⊥) → o ≡ none
other l none e n = refl
other l (some c) e n = absurd (n c ((line_exactly l c).0 e))

malformed_exactly : (l : List ℕ) → (line_in l ≡ none) ↔ ((c : Call) → SaysLine l c → ⊥)
malformed_exactly l = (λ e c s. none-some e ((line_exactly l c).1 s), λ n. other l (line_in l) refl n)

-- ---- every call has a line
own_mapping : (f : List ℕ) → Value f → SaysMapping (mapping_text f) f
own_mapping f v = ((maptext.claims).mapping_exactly (mapping_text f) f).0 ((maptext.claims).round_trip f v)

own_fields : (c : Call) → Fits c → SaysFields (fields_of c) c
own_fields forgets a = refl
own_fields (builds f) a = own_bytes f a
own_fields (runs w) a = own_bytes w a
own_fields (composes f g) a = (mapping_text f, mapping_text g, refl, own_mapping f a.0, own_mapping g a.1)
own_fields (asks f) a = own_mapping f a

pub claims : Claims
claims = record {
  line_exactly = line_exactly;
  malformed_exactly = malformed_exactly;
  line_round_trip = λ c a. (line_exactly (line_of c) c).1 (fields_of c, refl, own_fields c a);
}

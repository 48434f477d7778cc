-- Which lines ask a question, and that they mean nothing in a recorded list. Assumes nothing.
--
--   Meant l o    what the line l is where it asks o
--   …-meant      it is so, by its word and by what its fields say
use mathlib.Core.Path.{◌≡◌, refl, ap, ◌∙◌, subst}
use mathlib.Core.Logic.{◌↔◌}
use mathlib.Core.List.{List, [], ◌∷◌, ◌++◌}
use mathlib.Core.Option.{Option, none, some}
use Prim.Native.Nat.{ℕ}
use native.Mathlib.Omega.{arith}
use lib.ListN.{drop}
use Rattle.base.proofs.Tests.{zero_one, by_test}
use Rattle.text.specs.Numerals.{decimal_below, decimal}
use Rattle.lines.specs.Splitting.{begins, up_to, past}
use Rattle.lines.proofs.Over.{Over, over_up, over_past}
use Rattle.lines.proofs.Splits.{begins_whole, past_whole}
use Rattle.fields.specs.Numbers.{all_digits, value_from, parse_number}
use Rattle.fields.specs.Bytes.{hex_value, all_hex, pairs, parse_bytes}
use Rattle.fields.specs.Claims.{field_of}
use Rattle.fields.proofs.Exact.{own_number, own_bytes}
use Rattle.fields.proofs.Claims as fields
use Rattle.calls.specs.Calls.{Call, installs, loads, opens, delivers, withdraws, asks_verdict}
use Rattle.calltext.specs.Meaning.{Meaning, again, call, malformed, call_in, line_in}
use Rattle.calltext.specs.Claims.{SaysCall}
use Rattle.calltext.proofs.RoundTrip.{not_empty}
use Rattle.calltext.proofs.Exact.{says_over}
use Rattle.calltext.proofs.Exact as calltext
use Rattle.questions.specs.Meaning.{Question, diagnoses, locates, question, recorded, diagnose_word, locate_word, is_word, locate_by, locate_fields, question_in, meaning_by, meaning_in}
use Rattle.questions.specs.Worked.{Asked, Written}
use Rattle.questions.specs.Claims.{FitsQuestion, question_line, SaysQuestion, Claims}
use Rattle.questions.proofs.Readings.{word-is}

abbrev Meant : List ℕ → Option Question → Type 0
Meant l none = Unit {0}
Meant l (some q) = SaysQuestion l q

-- ---- from a line to what it asks
bytes_meant : (l x y : List ℕ) → l ≡ locate_word ++ (x ++ (32 ∷ y)) → (o : Option ℕ) → parse_number x ≡ o → (b : Option (List ℕ)) → parse_bytes y ≡ b
    → Meant l (locate_by o b)
bytes_meant l x y is none e b f = tt
bytes_meant l x y is (some p) e none f = tt
bytes_meant l x y is (some p) e (some w) f = (x, y, is, ((fields.claims).number_exactly x p).0 e, ((fields.claims).bytes_exactly y w).0 f)

fields_meant : (l w : List ℕ) → l ≡ locate_word ++ w → (o : Option (List ℕ)) → past 32 w ≡ o → Meant l (locate_fields (up_to 32 w) o)
fields_meant l w is none e = tt
fields_meant l w is (some y) e =
    bytes_meant l (up_to 32 w) y (is ∙ ap (λ (u : List ℕ). locate_word ++ u) (past_whole 32 w y e)) (parse_number (up_to 32 w)) refl (parse_bytes y) refl

meant : (l : List ℕ) → Meant l (question_in l)
unfolding question_in
meant l =
    by_test (is_word diagnose_word l) (λ t. rw t (word-is diagnose_word l t)) (λ no-diagnose.
    by_test (begins locate_word l)
    (λ t. rw (no-diagnose, t) (fields_meant l (drop 7 l) (begins_whole locate_word l t) (past 32 (drop 7 l)) refl))
    (λ no-locate. rw (no-diagnose, no-locate) tt))

asked : (l : List ℕ) (q : Question) → question_in l ≡ some q → SaysQuestion l q
asked l q e = subst (Meant l) e (meant l)

-- ---- and back
located : (x y : List ℕ) → Over 32 x → question_in (locate_word ++ (x ++ (32 ∷ y))) ≡ locate_by (parse_number x) (parse_bytes y)
unfolding begins question_in
located x y a = rw (over_up 32 y x a, over_past 32 y x a)

said : (l : List ℕ) (q : Question) → SaysQuestion l q → question_in l ≡ some q
unfolding begins question_in
said l diagnoses s = ap question_in s
said l (locates p w) s =
    ap question_in s.2
    ∙ located s.0 s.1 (says_over s.0 p s.3)
    ∙ rw (((fields.claims).number_exactly s.0 p).1 s.3, ((fields.claims).bytes_exactly s.1 w).1 s.4)

-- ---- a call asks no question, and a question is no call
call_asks_none : (l : List ℕ) (c : Call) → SaysCall l c → question_in l ≡ none
unfolding begins question_in
call_asks_none l (installs r) s = ap question_in s.2
call_asks_none l (loads f) s = ap question_in s.1
call_asks_none l (opens n) s = ap question_in s.1
call_asks_none l (delivers p v w) s = ap question_in s.3
call_asks_none l (withdraws p) s = ap question_in s.1
call_asks_none l asks_verdict s = ap question_in s

not_recorded : (l : List ℕ) (q : Question) → question_in l ≡ some q → line_in l ≡ malformed
unfolding begins call_in
not_recorded l diagnoses e = ap line_in (asked l diagnoses e)
not_recorded l (locates p w) e =
    let s = asked l (locates p w) e in
    ap line_in s.2 ∙ not_empty (locate_word ++ (s.0 ++ (32 ∷ s.1))) (omega arith)

-- ---- what a line means, by what it asks
module _ (l : List ℕ) where
  question_by : (q : Question) (o : Option Question) → question_in l ≡ o → meaning_by o (line_in l) ≡ question q → SaysQuestion l q
  question_by q none e f = zero_one cc
  question_by q (some x) e f = let same : x ≡ q = cc in subst (SaysQuestion l) same (asked l x e)

  recorded_by : (m : Meaning) (o : Option Question) → meaning_by o (line_in l) ≡ recorded m → line_in l ≡ m
  recorded_by m none f = cc
  recorded_by m (some x) f = zero_one cc

  meaning_with : (o : Option Question) (m : Meaning) → question_in l ≡ o → line_in l ≡ m → meaning_in l ≡ meaning_by o m
  meaning_with o m e f = rw (e, f)

  question_exactly : (q : Question) → (meaning_in l ≡ question q) ↔ SaysQuestion l q
  question_exactly q = (question_by q (question_in l) refl, λ s. meaning_with (some q) (line_in l) (said l q s) refl)

  call_exactly : (c : Call) → (meaning_in l ≡ recorded (call c)) ↔ SaysCall l c
  call_exactly c = (
    (λ e. ((calltext.claims).line_exactly l c).0 (recorded_by (call c) (question_in l) e)),
    λ s. meaning_with none (call c) (call_asks_none l c s) (((calltext.claims).line_exactly l c).1 s),
  )

  again_exactly : (meaning_in l ≡ recorded again) ↔ (l ≡ [])
  unfolding begins question_in
  again_exactly = ((λ e. ((calltext.claims).again_exactly l).0 (recorded_by again (question_in l) e)), λ e. ap meaning_in e)

  malformed_by : (o : Option Question) → question_in l ≡ o → line_in l ≡ malformed → ((q : Question) → SaysQuestion l q → ⊥) → meaning_in l ≡ recorded malformed
  malformed_by none e m n = meaning_with none malformed e m
  malformed_by (some q) e m n = absurd (n q (asked l q e))

  malformed_exactly : (meaning_in l ≡ recorded malformed)
      ↔ ((l ≡ [] → ⊥) × ((c : Call) → SaysCall l c → ⊥) × ((q : Question) → SaysQuestion l q → ⊥))
  malformed_exactly = (
    (λ e.
        let x = ((calltext.claims).malformed_exactly l).0 (recorded_by malformed (question_in l) e) in
        (x.0, x.1, λ q s. let t : meaning_in l ≡ question q = (question_exactly q).1 s in zero_one cc)),
    λ x. malformed_by (question_in l) refl (((calltext.claims).malformed_exactly l).1 (x.0, x.1)) x.2,
  )

-- ---- every question has a line
own_line : (q : Question) → FitsQuestion q → SaysQuestion (question_line q) q
own_line diagnoses a = refl
own_line (locates p w) a = (decimal p, field_of w, refl, own_number p a.0, own_bytes w a.1)

pub claims : Claims
claims = record {
  question_exactly = question_exactly;
  call_exactly = call_exactly;
  again_exactly = again_exactly;
  malformed_exactly = malformed_exactly;
  not_recorded = not_recorded;
  question_round_trip = λ q a. (question_exactly (question_line q) q).1 (own_line q a);
}

-- ---- the cases of specs/Worked.antt, by computation
pub asked_worked : Asked
unfolding begins up_to past question_in all_digits value_from parse_bytes all_hex pairs hex_value
asked_worked = record { bare = refl; bytes = refl; no_bytes = refl; space_behind = refl; no_field = refl }

pub written_worked : Written
unfolding decimal_below
written_worked = record { lost = refl; not_lost = refl; no_board = refl; after = refl; none_lost = refl; empty_before = refl }

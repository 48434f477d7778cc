-- A line means a call exactly when it is that call's line, but for leading zeros and the case of hex
-- digits. Assumes nothing.
--
--   Meant l m     what the line l is where it means m
--   …-meant       it is so, by the word with which it begins and by what its fields say
use mathlib.Core.Path.{◌≡◌, refl, sym, ap, ◌∙◌, subst}
use mathlib.Core.Logic.{◌↔◌}
use mathlib.Core.Bool.{true, cond}
use mathlib.Core.List.{List, [], ◌∷◌, ◌++◌}
use mathlib.Core.Option.{Option, none, some}
use Prim.Native.Nat.{ℕ, zero, suc, ◌≤◌}
use native.Mathlib.Omega.{arith}
use borrow.Author.Tests.{eq-eqb, eqb-true, le-leb, leb-true}
use lib.Dec.{eqb, leb}
use lib.ListN.{length, drop, replicate, drop_of_length-le}
use Rattle.base.proofs.Tests.{zero_one, by_test}
use Rattle.lines.specs.Splitting.{begins, up_to, past}
use Rattle.lines.proofs.Over.{Over, over-append}
use Rattle.lines.proofs.Splits.{begins_whole, past_whole}
use Rattle.packed.specs.Packed.{packed_of}
use Rattle.packed.proofs.Packing as packed
use Rattle.ruleformat.specs.Writing.{Bytes}
use Rattle.text.specs.Numerals.{decimal}
use Rattle.fields.specs.Numbers.{parse_number}
use Rattle.fields.specs.Bytes.{parse_bytes}
use Rattle.fields.specs.Claims.{AllBytes, field_of, SaysNumber}
use Rattle.fields.proofs.Exact.{own_number, own_bytes}
use Rattle.fields.proofs.Claims as fields
use Rattle.calls.specs.Calls.{Call, installs, loads, opens, delivers, withdraws, asks_verdict}
use Rattle.calltext.specs.Meaning.{Meaning, again, call, malformed, load_word, install_word, open_word, deliver_word, withdraw_word, verdict_word, load_by, install_by, open_by, withdraw_by, revision_by, deliver_by, revision_fields, deliver_fields, call_in, line_in}
use Rattle.calltext.specs.Claims.{Fits, line_of, SaysCall, Claims}
use Rattle.calltext.proofs.RoundTrip.{number_32, not_empty, delivery_line, other_size, no_revision, revision_too_large}

abbrev Meant : List ℕ → Meaning → Type 0
Meant l again = l ≡ []
Meant l (call c) = SaysCall l c
Meant l malformed = Unit {0}

-- ---- from a line to what it means
load_meant : (l x : List ℕ) → l ≡ load_word ++ x → (o : Option (List ℕ)) → parse_bytes x ≡ o → Meant l (load_by o)
load_meant l x is none e = tt
load_meant l x is (some f) e = (x, is, ((fields.claims).bytes_exactly x f).0 e)

install_meant : (l x : List ℕ) → l ≡ install_word ++ x → (o : Option (List ℕ)) → parse_bytes x ≡ o → Meant l (install_by o)
install_meant l x is none e = tt
install_meant l x is (some b) e =
    by_test (eqb (length b) 2058)
    (λ t. rw t (x, b, is, ((fields.claims).bytes_exactly x b).0 e, eqb-true (length b) 2058 t, refl))
    (λ f. rw f tt)

open_meant : (l x : List ℕ) → l ≡ open_word ++ x → (o : Option ℕ) → parse_number x ≡ o → Meant l (open_by o)
open_meant l x is none e = tt
open_meant l x is (some n) e = (x, is, ((fields.claims).number_exactly x n).0 e)

withdraw_meant : (l x : List ℕ) → l ≡ withdraw_word ++ x → (o : Option ℕ) → parse_number x ≡ o → Meant l (withdraw_by o)
withdraw_meant l x is none e = tt
withdraw_meant l x is (some p) e = (x, is, ((fields.claims).number_exactly x p).0 e)

module _ (l x y z : List ℕ) (is : l ≡ deliver_word ++ (x ++ (32 ∷ (y ++ (32 ∷ z))))) where
  bytes_meant : (p v : ℕ) → parse_number x ≡ some p → parse_number y ≡ some v → v ≤ 4294967295 → (o : Option (List ℕ)) → parse_bytes z ≡ o
      → Meant l (deliver_by (some p) (some v) o)
  bytes_meant p v e f h none g = tt
  bytes_meant p v e f h (some w) g =
      (x, y, z, is, ((fields.claims).number_exactly x p).0 e, ((fields.claims).number_exactly y v).0 f, h, ((fields.claims).bytes_exactly z w).0 g)

  revision_meant : (p : ℕ) → parse_number x ≡ some p → (o : Option ℕ) → parse_number y ≡ o → Meant l (deliver_by (some p) (revision_by o) (parse_bytes z))
  revision_meant p e none f = tt
  revision_meant p e (some v) f =
      by_test (leb v 4294967295)
      (λ t. rw t (bytes_meant p v e f (leb-true v 4294967295 t) (parse_bytes z) refl))
      (λ g. rw g tt)

  place_meant : (o : Option ℕ) → parse_number x ≡ o → Meant l (deliver_by o (revision_by (parse_number y)) (parse_bytes z))
  place_meant none e = tt
  place_meant (some p) e = revision_meant p e (parse_number y) refl

behind_meant : (l x w : List ℕ) → l ≡ deliver_word ++ (x ++ (32 ∷ w)) → (o : Option (List ℕ)) → past 32 w ≡ o
    → Meant l (revision_fields (parse_number x) (up_to 32 w) o)
behind_meant l x w is none e = tt
behind_meant l x w is (some z) e =
    place_meant l x (up_to 32 w) z (is ∙ ap (λ (v : List ℕ). deliver_word ++ (x ++ (32 ∷ v))) (past_whole 32 w z e)) (parse_number x) refl

deliver_meant : (l w : List ℕ) → l ≡ deliver_word ++ w → (o : Option (List ℕ)) → past 32 w ≡ o → Meant l (deliver_fields (up_to 32 w) o)
deliver_meant l w is none e = tt
deliver_meant l w is (some v) e =
    behind_meant l (up_to 32 w) v (is ∙ ap (λ (u : List ℕ). deliver_word ++ u) (past_whole 32 w v e)) (past 32 v) refl

verdict_meant : (l : List ℕ) → begins verdict_word l ≡ true → Meant l (cond (eqb (length l) 7) (call asks_verdict) malformed)
verdict_meant l t =
    by_test (eqb (length l) 7)
    (λ e.
    let all : length l ≡ 7 = eqb-true (length l) 7 e in
    rw e (begins_whole verdict_word l t ∙ ap (λ (w : List ℕ). verdict_word ++ w) (drop_of_length-le l {i = 7} (omega (arith, all)))))
    (λ e. rw e tt)

call_meant : (l : List ℕ) → Meant l (call_in l)
unfolding call_in
call_meant l =
    by_test (begins verdict_word l) (λ t. rw t (verdict_meant l t)) (λ no_verdict.
    by_test (begins load_word l) (λ t. rw (no_verdict, t) (load_meant l (drop 5 l) (begins_whole load_word l t) (parse_bytes (drop 5 l)) refl)) (λ no-load.
    by_test (begins install_word l) (λ t. rw (no_verdict, no-load, t) (install_meant l (drop 8 l) (begins_whole install_word l t) (parse_bytes (drop 8 l)) refl)) (λ no-install.
    by_test (begins open_word l) (λ t. rw (no_verdict, no-load, no-install, t) (open_meant l (drop 5 l) (begins_whole open_word l t) (parse_number (drop 5 l)) refl)) (λ no-open.
    by_test (begins deliver_word l)
    (λ t. rw (no_verdict, no-load, no-install, no-open, t) (deliver_meant l (drop 8 l) (begins_whole deliver_word l t) (past 32 (drop 8 l)) refl)) (λ no-deliver.
    by_test (begins withdraw_word l)
    (λ t. rw (no_verdict, no-load, no-install, no-open, no-deliver, t) (withdraw_meant l (drop 9 l) (begins_whole withdraw_word l t) (parse_number (drop 9 l)) refl))
    (λ no-withdraw. rw (no_verdict, no-load, no-install, no-open, no-deliver, no-withdraw) tt))))))

pub no_byte : (l : List ℕ) → length l ≡ 0 → l ≡ []
no_byte [] e = refl
no_byte (x ∷ l) e = absurd (omega (arith, e))

meant : (l : List ℕ) → Meant l (line_in l)
meant l = by_test (eqb (length l) 0) (λ t. rw t (no_byte l (eqb-true (length l) 0 t))) (λ f. rw f (call_meant l))

-- ---- and back: a digit is above a space
over_zeros : (zeros : ℕ) → Over 32 (replicate zeros 48)
over_zeros zero = tt
over_zeros (suc zeros) = (omega arith, over_zeros zeros)

pub says_over : (x : List ℕ) (n : ℕ) → SaysNumber x n → Over 32 x
says_over x n s = subst (Over 32) (sym s.1) (over-append 32 (replicate s.0 48) (decimal n) (over_zeros s.0) (number_32 n))

said : (l : List ℕ) (c : Call) → SaysCall l c → line_in l ≡ call c
unfolding begins call_in
said l (installs r) s =
    ap line_in s.2
    ∙ not_empty (install_word ++ s.0) (omega arith)
    ∙ ap install_by (((fields.claims).bytes_exactly s.0 s.1).1 s.3)
    ∙ rw (eq-eqb (length s.1) 2058 s.4, s.5)
said l (loads f) s = ap line_in s.1 ∙ not_empty (load_word ++ s.0) (omega arith) ∙ ap load_by (((fields.claims).bytes_exactly s.0 f).1 s.2)
said l (opens n) s = ap line_in s.1 ∙ not_empty (open_word ++ s.0) (omega arith) ∙ ap open_by (((fields.claims).number_exactly s.0 n).1 s.2)
said l (delivers p v w) s =
    let x = s.0 in
    let y = s.1 in
    let z = s.2 in
    ap line_in s.3
    ∙ not_empty (deliver_word ++ (x ++ (32 ∷ (y ++ (32 ∷ z))))) (omega arith)
    ∙ delivery_line x y z (says_over x p s.4) (says_over y v s.5)
    ∙ rw (((fields.claims).number_exactly x p).1 s.4, ((fields.claims).number_exactly y v).1 s.5, le-leb v 4294967295 s.6, ((fields.claims).bytes_exactly z w).1 s.7)
said l (withdraws p) s = ap line_in s.1 ∙ not_empty (withdraw_word ++ s.0) (omega arith) ∙ ap withdraw_by (((fields.claims).number_exactly s.0 p).1 s.2)
said l asks_verdict s = ap line_in s

line_exactly : (l : List ℕ) (c : Call) → (line_in l ≡ call c) ↔ SaysCall l c
line_exactly l c = (λ e. subst (Meant l) e (meant l), said l c)

again_exactly : (l : List ℕ) → (line_in l ≡ again) ↔ (l ≡ [])
again_exactly l = (λ e. subst (Meant l) e (meant l), λ e. ap line_in e)

other : (l : List ℕ) (m : Meaning) → line_in l ≡ m → (l ≡ [] → ⊥) → ((c : Call) → SaysCall l c → ⊥) → m ≡ malformed
other l again e n o = absurd (n ((again_exactly l).0 e))
other l (call c) e n o = absurd (o c ((line_exactly l c).0 e))
other l malformed e n o = refl

malformed_exactly : (l : List ℕ) → (line_in l ≡ malformed) ↔ ((l ≡ [] → ⊥) × ((c : Call) → SaysCall l c → ⊥))
malformed_exactly l = (
  (λ e. ((λ n. let t : again ≡ malformed = sym ((again_exactly l).1 n) ∙ e in zero_one cc), λ c s. let t : call c ≡ malformed = sym ((line_exactly l c).1 s) ∙ e in zero_one cc)),
  λ o. other l (line_in l) refl o.0 o.1,
)

-- ---- every call has a line
all_bytes : (b : List ℕ) → Bytes b → AllBytes b
all_bytes [] h = tt
all_bytes (x ∷ b) h = (h 0, all_bytes b (λ i. h (suc i)))

own_line : (c : Call) → Fits c → SaysCall (line_of c) c
own_line (installs r) a =
    (field_of (packed_of r), packed_of r, refl, own_bytes (packed_of r) (all_bytes (packed_of r) ((packed.claims).packed_bytes r a)), (packed.claims).packed_size_lem r, (packed.claims).packed_round_trip r a)
own_line (loads f) a = (field_of f, refl, own_bytes f a)
own_line (opens n) a = (decimal n, refl, own_number n a)
own_line (delivers p v w) a = (decimal p, decimal v, field_of w, refl, own_number p a.0, own_number v (omega (arith, a.1)), a.1, own_bytes w a.2)
own_line (withdraws p) a = (decimal p, refl, own_number p a)
own_line asks_verdict a = refl

pub claims : Claims
claims = record {
  line_exactly = line_exactly;
  again_exactly = again_exactly;
  malformed_exactly = malformed_exactly;
  line_round_trip = λ c a. (line_exactly (line_of c) c).1 (own_line c a);
  other_size = other_size;
  no_revision = no_revision;
  revision_too_large = revision_too_large;
}

-- A line means a call or a file exactly when it is its line, but for leading zeros and the case of hex
-- digits. Assumes nothing.
--
--   Meant l m     what the line l is where it means m
--   …-meant       it is so, by the word with which it begins and by what its fields say
use mathlib.Core.Path.{◌≡◌, refl, sym, ap, ◌∙◌, subst}
use mathlib.Core.Logic.{◌↔◌}
use mathlib.Core.Bool.{true, cond}
use mathlib.Core.List.{List, [], ◌∷◌, ◌++◌}
use mathlib.Core.Option.{Option, none, some}
use Prim.Native.Nat.{ℕ, ◌≤◌}
use native.Mathlib.Omega.{arith}
use borrow.Author.Tests.{eqb-true, ne_eqb}
use lib.Dec.{eqb}
use lib.ListN.{length, drop, drop_of_length-le}
use Rattle.base.proofs.Tests.{by_test}
use Rattle.text.specs.Numerals.{decimal}
use Rattle.lines.specs.Splitting.{begins, up_to, past}
use Rattle.lines.proofs.Over.{over_up, over_past}
use Rattle.lines.proofs.Splits.{begins_whole, past_whole}
use Rattle.fields.specs.Numbers.{parse_number}
use Rattle.fields.specs.Bytes.{parse_bytes}
use Rattle.fields.specs.Claims.{field_of}
use Rattle.fields.proofs.Exact.{own_number, own_bytes}
use Rattle.fields.proofs.Claims as fields
use Rattle.calltext.proofs.RoundTrip.{number_32, no_space}
use Rattle.calltext.proofs.Exact.{no_byte, says_over}
use Rattle.trays.specs.Calls.{Call, installs_row, installs_column, opens, delivers, withdraws, asks_verdict}
use Rattle.traytext.specs.Lines.{Meaning, again, call, row_file, column_file, malformed, row_word, column_word, open_word, deliver_word, withdraw_word, verdict_word, row_by, column_by, withdraw_by, open_by, deliver_by, open_fields, deliver_fields, call_in, line_in}
use Rattle.traytext.specs.Claims.{FitsCall, Fits, call_line, line_of, SaysCall, SaysLine, Claims}

not_empty : (w : List ℕ) → 1 ≤ length w → line_in w ≡ call_in w
not_empty w h = rw (ne_eqb (length w) 0 (λ e. omega arith))

-- an opening with one number
one_number : (w : ℕ) → line_in (open_word ++ decimal w) ≡ malformed
unfolding begins call_in
one_number w = not_empty (open_word ++ decimal w) (omega arith) ∙ rw (no_space (decimal w) (number_32 w))

-- ---- from a line to what it means
abbrev Meant : List ℕ → Meaning → Type 0
Meant l again = l ≡ []
Meant l (call c) = SaysCall l c
Meant l (row_file f) = SaysLine l (row_file f)
Meant l (column_file f) = SaysLine l (column_file f)
Meant l malformed = Unit {0}

row_meant : (l x : List ℕ) → l ≡ row_word ++ x → (o : Option (List ℕ)) → parse_bytes x ≡ o → Meant l (row_by o)
row_meant l x is none e = tt
row_meant l x is (some f) e = (x, is, ((fields.claims).bytes_exactly x f).0 e)

column_meant : (l x : List ℕ) → l ≡ column_word ++ x → (o : Option (List ℕ)) → parse_bytes x ≡ o → Meant l (column_by o)
column_meant l x is none e = tt
column_meant l x is (some f) e = (x, is, ((fields.claims).bytes_exactly x f).0 e)

withdraw_meant : (l x : List ℕ) → l ≡ withdraw_word ++ x → (o : Option ℕ) → parse_number x ≡ o → Meant l (withdraw_by o)
withdraw_meant l x is none e = tt
withdraw_meant l x is (some p) e = (x, is, ((fields.claims).number_exactly x p).0 e)

open_by_lem : (l x y : List ℕ) → l ≡ open_word ++ (x ++ (32 ∷ y)) → (o : Option ℕ) → parse_number x ≡ o → (u : Option ℕ) → parse_number y ≡ u → Meant l (open_by o u)
open_by_lem l x y is none e u f = tt
open_by_lem l x y is (some w) e none f = tt
open_by_lem l x y is (some w) e (some n) f = (x, y, is, ((fields.claims).number_exactly x w).0 e, ((fields.claims).number_exactly y n).0 f)

open_meant : (l w : List ℕ) → l ≡ open_word ++ w → (o : Option (List ℕ)) → past 32 w ≡ o → Meant l (open_fields (up_to 32 w) o)
open_meant l w is none e = tt
open_meant l w is (some y) e =
    open_by_lem l (up_to 32 w) y (is ∙ ap (λ (v : List ℕ). open_word ++ v) (past_whole 32 w y e)) (parse_number (up_to 32 w)) refl (parse_number y) refl

deliver_by_lem : (l x y : List ℕ) → l ≡ deliver_word ++ (x ++ (32 ∷ y)) → (o : Option ℕ) → parse_number x ≡ o → (u : Option (List ℕ)) → parse_bytes y ≡ u → Meant l (deliver_by o u)
deliver_by_lem l x y is none e u f = tt
deliver_by_lem l x y is (some p) e none f = tt
deliver_by_lem l x y is (some p) e (some b) f = (x, y, is, ((fields.claims).number_exactly x p).0 e, ((fields.claims).bytes_exactly y b).0 f)

deliver_meant : (l w : List ℕ) → l ≡ deliver_word ++ w → (o : Option (List ℕ)) → past 32 w ≡ o → Meant l (deliver_fields (up_to 32 w) o)
deliver_meant l w is none e = tt
deliver_meant l w is (some y) e =
    deliver_by_lem l (up_to 32 w) y (is ∙ ap (λ (v : List ℕ). deliver_word ++ v) (past_whole 32 w y e)) (parse_number (up_to 32 w)) refl (parse_bytes y) refl

verdict_meant : (l : List ℕ) → begins verdict_word l ≡ true → Meant l (cond (eqb (length l) 7) (call asks_verdict) malformed)
verdict_meant l t =
    by_test (eqb (length l) 7)
    (λ e.
    let all : length l ≡ 7 = eqb-true (length l) 7 e in
    rw e (begins_whole verdict_word l t ∙ ap (λ (w : List ℕ). verdict_word ++ w) (drop_of_length-le l {i = 7} (omega (arith, all)))))
    (λ e. rw e tt)

call_meant : (l : List ℕ) → Meant l (call_in l)
unfolding call_in
call_meant l =
    by_test (begins verdict_word l) (λ t. rw t (verdict_meant l t)) (λ no_verdict.
    by_test (begins row_word l) (λ t. rw (no_verdict, t) (row_meant l (drop 4 l) (begins_whole row_word l t) (parse_bytes (drop 4 l)) refl)) (λ no_row.
    by_test (begins column_word l) (λ t. rw (no_verdict, no_row, t) (column_meant l (drop 7 l) (begins_whole column_word l t) (parse_bytes (drop 7 l)) refl)) (λ no-column.
    by_test (begins open_word l) (λ t. rw (no_verdict, no_row, no-column, t) (open_meant l (drop 5 l) (begins_whole open_word l t) (past 32 (drop 5 l)) refl)) (λ no-open.
    by_test (begins deliver_word l)
    (λ t. rw (no_verdict, no_row, no-column, no-open, t) (deliver_meant l (drop 8 l) (begins_whole deliver_word l t) (past 32 (drop 8 l)) refl)) (λ no-deliver.
    by_test (begins withdraw_word l)
    (λ t. rw (no_verdict, no_row, no-column, no-open, no-deliver, t) (withdraw_meant l (drop 9 l) (begins_whole withdraw_word l t) (parse_number (drop 9 l)) refl))
    (λ no-withdraw. rw (no_verdict, no_row, no-column, no-open, no-deliver, no-withdraw) tt))))))

meant : (l : List ℕ) → Meant l (line_in l)
meant l = by_test (eqb (length l) 0) (λ t. rw t (no_byte l (eqb-true (length l) 0 t))) (λ f. rw f (call_meant l))

-- ---- and back
said_call : (l : List ℕ) (c : Call) → SaysCall l c → line_in l ≡ call c
unfolding begins call_in
said_call l (installs_row r) s = absurd s
said_call l (installs_column r) s = absurd s
said_call l (opens w n) s =
    let x = s.0 in
    let y = s.1 in
    let over = says_over x w s.3 in
    ap line_in s.2
    ∙ not_empty (open_word ++ (x ++ (32 ∷ y))) (omega arith)
    ∙ rw (over_up 32 y x over, over_past 32 y x over, ((fields.claims).number_exactly x w).1 s.3, ((fields.claims).number_exactly y n).1 s.4)
said_call l (delivers p b) s =
    let x = s.0 in
    let y = s.1 in
    let over = says_over x p s.3 in
    ap line_in s.2
    ∙ not_empty (deliver_word ++ (x ++ (32 ∷ y))) (omega arith)
    ∙ rw (over_up 32 y x over, over_past 32 y x over, ((fields.claims).number_exactly x p).1 s.3, ((fields.claims).bytes_exactly y b).1 s.4)
said_call l (withdraws p) s = ap line_in s.1 ∙ not_empty (withdraw_word ++ s.0) (omega arith) ∙ ap withdraw_by (((fields.claims).number_exactly s.0 p).1 s.2)
said_call l asks_verdict s = ap line_in s

said : (l : List ℕ) (m : Meaning) → SaysLine l m → line_in l ≡ m
unfolding begins call_in
said l again s = ap line_in s
said l (call c) s = said_call l c s
said l (row_file f) s = ap line_in s.1 ∙ not_empty (row_word ++ s.0) (omega arith) ∙ ap row_by (((fields.claims).bytes_exactly s.0 f).1 s.2)
said l (column_file f) s = ap line_in s.1 ∙ not_empty (column_word ++ s.0) (omega arith) ∙ ap column_by (((fields.claims).bytes_exactly s.0 f).1 s.2)
said l malformed s = absurd s

says : (l : List ℕ) (m : Meaning) → (m ≡ malformed → ⊥) → Meant l m → SaysLine l m
says l again n s = s
says l (call c) n s = s
says l (row_file f) n s = s
says l (column_file f) n s = s
says l malformed n s = n refl

line_exactly : (l : List ℕ) (m : Meaning) → (m ≡ malformed → ⊥) → (line_in l ≡ m) ↔ SaysLine l m
line_exactly l m n = (λ e. says l m n (subst (Meant l) e (meant l)), said l m)

not_said : (l : List ℕ) (m : Meaning) → m ≡ malformed → SaysLine l m → ⊥
not_said l m e s = subst (SaysLine l) e s

other : (l : List ℕ) (m : Meaning) → line_in l ≡ m → ((m : Meaning) → SaysLine l m → ⊥) → m ≡ malformed
other l again e o = absurd (o again (subst (Meant l) e (meant l)))
other l (call c) e o = absurd (o (call c) (subst (Meant l) e (meant l)))
other l (row_file f) e o = absurd (o (row_file f) (subst (Meant l) e (meant l)))
other l (column_file f) e o = absurd (o (column_file f) (subst (Meant l) e (meant l)))
other l malformed e o = refl

malformed_exactly : (l : List ℕ) → (line_in l ≡ malformed) ↔ ((m : Meaning) → SaysLine l m → ⊥)
malformed_exactly l = (λ e m s. not_said l m (sym (said l m s) ∙ e) s, λ o. other l (line_in l) refl o)

-- ---- every call but an installation has a line, and so has a file
own_call : (c : Call) → FitsCall c → SaysCall (call_line c) c
own_call (installs_row r) a = a
own_call (installs_column r) a = a
own_call (opens w n) a = (decimal w, decimal n, refl, own_number w a.0, own_number n a.1)
own_call (delivers p b) a = (decimal p, field_of b, refl, own_number p a.0, own_bytes b a.1)
own_call (withdraws p) a = (decimal p, refl, own_number p a)
own_call asks_verdict a = refl

own_line : (m : Meaning) → Fits m → SaysLine (line_of m) m
own_line again a = refl
own_line (call c) a = own_call c a
own_line (row_file f) a = (field_of f, refl, own_bytes f a)
own_line (column_file f) a = (field_of f, refl, own_bytes f a)
own_line malformed a = a

pub claims : Claims
claims = record {
  line_exactly = line_exactly;
  malformed_exactly = malformed_exactly;
  line_round_trip = λ m a. said (line_of m) m (own_line m a);
  one_number = one_number;
}

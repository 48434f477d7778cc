-- What fields are made of, and lines of installations and of deliveries that are malformed. Assumes
-- nothing.
use mathlib.Core.Path.{◌≡◌, refl, ap, ◌∙◌}
use mathlib.Core.List.{List, [], ◌∷◌, ◌++◌}
use mathlib.Core.Option.{none}
use Prim.Native.Nat.{ℕ, zero, suc, ◌+◌, ◌/◌, ◌%◌, ◌≤◌, ◌<◌}
use native.Mathlib.Omega.{arith}
use borrow.Author.Rules.{rules}
use borrow.Author.Tests.{ne_eqb, lt-leb}
use lib.Dec.{ltb}
use lib.ListN.{length}
use Rattle.base.proofs.Tests.{by_test}
use Rattle.text.specs.Numerals.{decimal_below, decimal, hex_digit, hex}
use Rattle.lines.specs.Splitting.{begins, up_to, past}
use Rattle.lines.proofs.Over.{Over, over-append, over_less, over_up, over_past}
use Rattle.packed.specs.Packed.{packed_of}
use Rattle.fields.specs.Numbers.{parse_number}
use Rattle.fields.specs.Bytes.{parse_bytes}
use Rattle.fields.specs.Claims.{AllBytes, digits_of, field_of}
use Rattle.fields.proofs.Claims as fields
use Rattle.calls.specs.Calls.{Call, installs, loads, opens, delivers, withdraws, asks_verdict}
use Rattle.calltext.specs.Meaning.{malformed, load_word, install_word, open_word, deliver_word, withdraw_word, install_by, revision_by, deliver_by, revision_fields, call_in, line_in}
use Rattle.calltext.specs.Claims.{line_of}
use Rattle.calltext.proofs.Readings.{bad_revision}

-- ---- the bytes of a field: a digit is over 47, and `-` is 45
over_decimal : (places n : ℕ) → Over 47 (decimal_below places n)
unfolding decimal_below
over_decimal zero n = tt
over_decimal (suc places) n =
    by_test (ltb n 10)
    (λ e. rw e (omega arith, tt))
    (λ e. rw e (over-append 47 (decimal_below places (n / 10)) ((48 + n % 10) ∷ []) (over_decimal places (n / 10)) (omega arith, tt)))

hex_digit_lem : (d : ℕ) → 47 < hex_digit d
hex_digit_lem d = by_test (ltb d 10) (λ e. rw e (omega arith)) (λ e. rw e (omega arith))

over_hex : (width n : ℕ) → Over 47 (hex width n)
unfolding hex
over_hex zero n = tt
over_hex (suc width) n = over-append 47 (hex width (n / 16)) (hex_digit (n % 16) ∷ []) (over_hex width (n / 16)) (hex_digit_lem (n % 16), tt)

over_digits : (b : List ℕ) → Over 47 (digits_of b)
unfolding digits_of
over_digits [] = tt
over_digits (x ∷ b) = over-append 47 (hex 2 x) (digits_of b) (over_hex 2 x) (over_digits b)

over_field : (b : List ℕ) → Over 44 (field_of b)
over_field [] = (omega arith, tt)
over_field (x ∷ b) = over_less 44 47 (digits_of (x ∷ b)) (omega arith) (over_digits (x ∷ b))

-- ---- no line feed
number_10 : (n : ℕ) → Over 10 (decimal n)
number_10 n = over_less 10 47 (decimal n) (omega arith) (over_decimal 20 n)

field_10 : (b : List ℕ) → Over 10 (field_of b)
field_10 b = over_less 10 44 (field_of b) (omega arith) (over_field b)

pub over_call : (c : Call) → Over 10 (line_of c)
over_call (installs r) = over-append 10 install_word (field_of (packed_of r)) (search rules) (field_10 (packed_of r))
over_call (loads f) = over-append 10 load_word (field_of f) (search rules) (field_10 f)
over_call (opens n) = over-append 10 open_word (decimal n) (search rules) (number_10 n)
over_call (delivers p v w) =
    let bytes : Over 10 (32 ∷ field_of w) = (omega arith, field_10 w) in
    let behind : Over 10 (32 ∷ (decimal v ++ (32 ∷ field_of w))) =
    (omega arith, over-append 10 (decimal v) (32 ∷ field_of w) (number_10 v) bytes) in
    over-append 10 deliver_word (decimal p ++ (32 ∷ (decimal v ++ (32 ∷ field_of w)))) (search rules)
    (over-append 10 (decimal p) (32 ∷ (decimal v ++ (32 ∷ field_of w))) (number_10 p) behind)
over_call (withdraws p) = over-append 10 withdraw_word (decimal p) (search rules) (number_10 p)
over_call asks_verdict = search rules

pub not_empty : (w : List ℕ) → 1 ≤ length w → line_in w ≡ call_in w
not_empty w h = rw (ne_eqb (length w) 0 (λ e. omega arith))

-- ---- bytes that are no rule
pub other_size : (b : List ℕ) → AllBytes b → (length b ≡ 2058 → ⊥) → line_in (install_word ++ field_of b) ≡ malformed
unfolding begins call_in
other_size b a other =
    not_empty (install_word ++ field_of b) (omega arith)
    ∙ ap install_by ((fields.claims).bytes_round_trip b a)
    ∙ rw (ne_eqb (length b) 2058 other)

-- ---- the fields of a delivery
pub number_32 : (n : ℕ) → Over 32 (decimal n)
number_32 n = over_less 32 47 (decimal n) (omega arith) (over_decimal 20 n)

pub no_space : (w : List ℕ) → Over 32 w → past 32 w ≡ none
unfolding past
no_space [] a = refl
no_space (x ∷ w) a = rw (ne_eqb x 32 (λ e. omega (arith, a.0))) (no_space w a.1)

-- a place, and what stands behind one space
place_line : (x y : List ℕ) → Over 32 x → call_in (deliver_word ++ (x ++ (32 ∷ y))) ≡ revision_fields (parse_number x) (up_to 32 y) (past 32 y)
unfolding begins call_in
place_line x y a = rw (over_up 32 y x a, over_past 32 y x a)

pub delivery_line : (x y z : List ℕ) → Over 32 x → Over 32 y
    → call_in (deliver_word ++ (x ++ (32 ∷ (y ++ (32 ∷ z))))) ≡ deliver_by (parse_number x) (revision_by (parse_number y)) (parse_bytes z)
delivery_line x y z a b = place_line x (y ++ (32 ∷ z)) a ∙ rw (over_up 32 z y b, over_past 32 z y b)

pub no_revision : (p : ℕ) (w : List ℕ) → line_in (deliver_word ++ (decimal p ++ (32 ∷ field_of w))) ≡ malformed
no_revision p w =
    not_empty (deliver_word ++ (decimal p ++ (32 ∷ field_of w))) (omega arith)
    ∙ place_line (decimal p) (field_of w) (number_32 p)
    ∙ rw (no_space (field_of w) (over_less 32 44 (field_of w) (omega arith) (over_field w)))

pub revision_too_large : (p v : ℕ) (w : List ℕ) → 4294967295 < v → v ≤ 18446744073709551615 → line_in (line_of (delivers p v w)) ≡ malformed
revision_too_large p v w large fits =
    not_empty (line_of (delivers p v w)) (omega arith)
    ∙ delivery_line (decimal p) (decimal v) (field_of w) (number_32 p) (number_32 v)
    ∙ rw ((fields.claims).number_round_trip v fits, lt-leb v 4294967295 large) (bad_revision (parse_number (decimal p)) (parse_bytes (field_of w)))

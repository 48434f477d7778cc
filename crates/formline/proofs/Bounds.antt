-- A line that says a form is no longer than its fields can be. Assumes nothing.
--
--   split         a line is a field, a space and what follows it
--   digits_most, words_most   how long a field can be
--   bounded       the line
use mathlib.Core.Path.{◌≡◌, refl, sym, ap, ◌∙◌}
use mathlib.Core.Logic.{◌⊎◌, inl, inr, ⊎_elim}
use mathlib.Core.Bool.{◌&&◌, and-eq-true_iff}
use mathlib.Core.List.{List}
use mathlib.Core.Option.{Option, none, some}
use Prim.Native.Nat.{ℕ, suc, ◌+◌, ◌*◌, ◌%◌, ◌≤◌}
use native.Mathlib.Omega.{arith}
use lib.Dec.{eqb, leb, ltb}
use lib.ListN.{length, get_or, drop, length-drop}
use borrow.Author.Tests.{leb-true, eqb-true, ltb-true, ltb-false}
use Rattle.base.proofs.Options.{none-some}
use Rattle.base.proofs.Tests.{by_test}
use Rattle.lines.specs.Splitting.{up_to, past}
use Rattle.lines.proofs.Splits.{past_there, past_none}
use Rattle.fields.specs.Numbers.{is_number, all_digits, value_of, parse_number}
use Rattle.fields.specs.Bytes.{all_hex, pairs, is_bytes, is_no_bytes, parse_bytes}
use Rattle.fields.proofs.Pairs.{pairs_length}
use Rattle.wordfields.specs.Words.{words_by, parse_words}
use Rattle.forms.specs.declared.Form.{Form}
use Rattle.formline.specs.Lines.{field_then, cells_by, cells_in, masks_in, failure_in, symbols_in, line_in, longest_line}

-- ---- a field and what follows it
pub record Split {A : Type 0} (o : Option A) (rest : Option (List ℕ)) (next : A → List ℕ → Option Form) (f : Form) : Type 0 where
  pub value : A
  pub said : o ≡ some value
  pub behind : List ℕ
  pub there : rest ≡ some behind
  pub made : next value behind ≡ some f

pub split : {A : Type 0} (o : Option A) (rest : Option (List ℕ)) (next : A → List ℕ → Option Form) (f : Form)
    → field_then o rest next ≡ some f → Split o rest next f
split none rest next f e = none-some refl e
split (some a) none next f e = none-some refl e
split (some a) (some w) next f e = record { value = a; said = refl; behind = w; there = refl; made = e }

-- so long is a line whose first field ends at a space
pub joined_length : (w v : List ℕ) → past 32 w ≡ some v → length w ≡ length (up_to 32 w) + 1 + length v
joined_length w v e =
    by_test (ltb (length (up_to 32 w)) (length w))
    (λ t.
    let h = ltb-true (length (up_to 32 w)) (length w) t in
    let z : some (drop (suc (length (up_to 32 w))) w) ≡ some v = sym (past_there 32 w h) ∙ e in
    let q : drop (suc (length (up_to 32 w))) w ≡ v = cc in
    omega (arith, ap length q, length-drop (suc (length (up_to 32 w))) w))
    (λ t. none-some (past_none 32 w (ltb-false (length (up_to 32 w)) (length w) t)) e)

-- ---- a number
pub digits_most : (w : List ℕ) (n : ℕ) → parse_number w ≡ some n → length w ≤ 20
digits_most w n e =
    by_test (is_number w)
    (λ t.
    let a = (and-eq-true_iff (leb 1 (length w)) (leb (length w) 20 && (all_digits w && leb (value_of w) 18446744073709551615))).0 t in
    let b = (and-eq-true_iff (leb (length w) 20) (all_digits w && leb (value_of w) 18446744073709551615)).0 a.1 in
    leb-true (length w) 20 b.0)
    (λ t. let z : none ≡ some n = rw t at e in none-some refl z)

-- ---- 16-bit numbers
bytes_most : (w b : List ℕ) → parse_bytes w ≡ some b → (length w ≡ 1) ⊎ (length w ≤ 2 * length b)
unfolding parse_bytes
bytes_most w b e =
    by_test (is_no_bytes w)
    (λ t. inl (eqb-true (length w) 1 ((and-eq-true_iff (eqb (length w) 1) (eqb (get_or w 0 0) 45)).0 t).0))
    (λ t.
    by_test (is_bytes w)
    (λ u.
    let z : some (pairs w) ≡ some b = rw (t, u) at e in
    let q : pairs w ≡ b = cc in
    let two = ((and-eq-true_iff (leb 1 (length w)) (eqb (length w % 2) 0 && all_hex w)).0 u).1 in
    let even = eqb-true (length w % 2) 0 ((and-eq-true_iff (eqb (length w % 2) 0) (all_hex w)).0 two).0 in
    inr (omega (arith, (pairs_length w).1, ap length q)))
    (λ u. let z : none ≡ some b = rw (t, u) at e in none-some refl z))

words_by_lem : (most : ℕ) → 1 ≤ most → (w l : List ℕ) (o : Option (List ℕ)) → parse_bytes w ≡ o → words_by most o ≡ some l → length w ≤ 4 * most
words_by_lem most some_word w l none e b = none-some refl b
words_by_lem most some_word w l (some bytes) e b =
    by_test (eqb (length bytes % 2) 0 && leb (length bytes) (2 * most))
    (λ t.
    let few = leb-true (length bytes) (2 * most) ((and-eq-true_iff (eqb (length bytes % 2) 0) (leb (length bytes) (2 * most))).0 t).1 in
    ⊎_elim (λ one. omega arith) (λ h. omega arith) (bytes_most w bytes e))
    (λ t. let z : none ≡ some l = rw t at b in none-some refl z)

pub words_most : (most : ℕ) → 1 ≤ most → (w l : List ℕ) → parse_words most w ≡ some l → length w ≤ 4 * most
words_most most some_word w l e = words_by_lem most some_word w l (parse_bytes w) refl e

-- ---- the line
cells_by_lem : (n k : ℕ) (a b w : List ℕ) (f : Form) (o : Option (List ℕ)) → parse_words 8192 w ≡ o → cells_by n k a b o ≡ some f → length w ≤ 32768
cells_by_lem n k a b w f none e q = none-some refl q
cells_by_lem n k a b w f (some l) e q = words_most 8192 (omega arith) w l e

module _ (f : Form) where
  masks_most : (n k : ℕ) (a w : List ℕ) → masks_in n k a w ≡ some f → length w ≤ 34817
  unfolding masks_in
  masks_most n k a w e =
      let s = split (parse_words 512 (up_to 32 w)) (past 32 w) (cells_in n k a) f e in
      let c = cells_by_lem n k a s.value s.behind f (parse_words 8192 s.behind) refl s.made in
      omega (arith, joined_length w s.behind s.there, words_most 512 (omega arith) (up_to 32 w) s.value s.said)

  failure_most : (n k : ℕ) (w : List ℕ) → failure_in n k w ≡ some f → length w ≤ 36866
  unfolding failure_in
  failure_most n k w e =
      let s = split (parse_words 512 (up_to 32 w)) (past 32 w) (masks_in n k) f e in
      let c = masks_most n k s.value s.behind s.made in
      omega (arith, joined_length w s.behind s.there, words_most 512 (omega arith) (up_to 32 w) s.value s.said)

  symbols_most : (n : ℕ) (w : List ℕ) → symbols_in n w ≡ some f → length w ≤ 36887
  unfolding symbols_in
  symbols_most n w e =
      let s = split (parse_number (up_to 32 w)) (past 32 w) (failure_in n) f e in
      let c = failure_most n s.value s.behind s.made in
      omega (arith, joined_length w s.behind s.there, digits_most (up_to 32 w) s.value s.said)

pub bounded : (w : List ℕ) (f : Form) → line_in w ≡ some f → length w ≤ longest_line
unfolding line_in
bounded w f e =
    let s = split (parse_number (up_to 32 w)) (past 32 w) symbols_in f e in
    let c = symbols_most f s.value s.behind s.made in
    omega (arith, joined_length w s.behind s.there, digits_most (up_to 32 w) s.value s.said)

-- Bytes read into a buffer that has one to spare, and what they say. Assumes nothing.
use mathlib.Core.Path.{◌≡◌, refl, sym, ap, ◌∙◌}
use mathlib.Core.List.{List}
use mathlib.Core.Option.{Option, none, some}
use Prim.Native.Nat.{ℕ, ◌+◌, ◌*◌, ◌%◌, ◌≤◌, min}
use native.Mathlib.Omega.{arith}
use lib.Dec.{eqb, ltb}
use lib.ListN.{length, get_or, take, length-take, get_or-eq_default}
use lib.Seq.{take_all}
use borrow.Author.Tests.{eq-eqb, le-leb, lt-leb, eqb-true, eqb-false, ltb-false}
use Rattle.base.proofs.Lists.{is_list_from}
use Rattle.base.proofs.Options.{none-some}
use Rattle.base.proofs.Tests.{by_test}
use Rattle.text.proofs.Fitting.{taken}
use Rattle.fields.specs.Bytes.{parse_bytes, TookOf, Took}
use Rattle.forms.proofs.Filling.{Filled}
use Rattle.wordfields.specs.Words.{word_at, words_of, words_by, parse_words}

-- ---- an array that is filled
behind : (b : List ℕ) (i : ℕ) → length b ≤ 2 * i → word_at b i ≡ 0
behind b i h =
    let low : get_or b (2 * i) 0 ≡ 0 = get_or-eq_default b 0 h in
    let high : get_or b (2 * i + 1) 0 ≡ 0 = get_or-eq_default b 0 (omega arith) in
    omega arith

pub all_words : (len i : ℕ) (b words : List ℕ) → length words ≡ len → length b ≤ 2 * i → Filled len 0 (word_at b) i words
    → words ≡ words_of len b
all_words len i b words n h filled =
    is_list_from words len (word_at b) n
    (λ j l. filled j l ∙ by_test (ltb j i)
    (λ e. rw e)
    (λ e. rw e (sym (behind b j (omega (arith, ltb-false j i e))))))

-- ---- what was read
-- of the bytes b, if there are any, as many as fit stand in the buffer
module _ (most : ℕ) (before after : List ℕ) (r : Option ℕ) (room : length before ≡ 2 * most + 1) where
  odd_by : (o : Option (List ℕ)) → TookOf o before r after → (n : ℕ) → r ≡ some n → n % 2 ≡ 1 → none ≡ words_by most o
  odd_by none took n e odd = refl
  odd_by (some b) took n e odd =
      let q : took.0 ≡ n = let z : some took.0 ≡ some n = sym took.1 ∙ e in cc in
      let size : n ≡ min (length before) (length b) = omega (arith, q, took.2.ends, length-take (length before) b) in
      by_test (eqb (length b % 2) 0)
      (λ t. rw (t, lt-leb (length b) (2 * most) (omega (arith, eqb-true (length b % 2) 0 t))))
      (λ t. rw t)

  record Whole (b : List ℕ) (n : ℕ) : Type 0 where
    few : n ≤ 2 * most
    is : take n after ≡ b
    even : n ≡ length b

  whole_by : (b : List ℕ) → TookOf (some b) before r after → (n : ℕ) → r ≡ some n → (n % 2 ≡ 1 → ⊥) → Whole b n
  whole_by b took n e even =
      let q : took.0 ≡ n = let z : some took.0 ≡ some n = sym took.1 ∙ e in cc in
      let size : n ≡ min (length before) (length b) = omega (arith, q, took.2.ends, length-take (length before) b) in
      let few : n ≤ 2 * most = by_test (eqb n (2 * most + 1))
      (λ t. let z = eqb-true n (2 * most + 1) t in absurd (even (omega arith)))
      (λ t. omega (arith, eqb-false n (2 * most + 1) t)) in
      let same : n ≡ length b = omega arith in
      record {
        few = few;
        is = ap (λ (x : ℕ). take x after) (sym q) ∙ taken took.2 ∙ take_all (length before) b (omega arith);
        even = same;
      }

  good_by : (o : Option (List ℕ)) → TookOf o before r after → (n : ℕ) → r ≡ some n → (n % 2 ≡ 1 → ⊥) → (words : List ℕ)
      → words ≡ words_of most (take n after) → some words ≡ words_by most o
  good_by none took n e even words is = none-some took.0 e
  good_by (some b) took n e even words is =
      let w = whole_by b took n e even in
      rw (eq-eqb (length b % 2) 0 (omega (arith, w.even)), le-leb (length b) (2 * most) (omega (arith, w.even, w.few)))
      (ap (λ (x : List ℕ). some x) (is ∙ ap (words_of most) w.is))

  bounds_by : (o : Option (List ℕ)) → TookOf o before r after → (n : ℕ) → r ≡ some n → (n % 2 ≡ 1 → ⊥) → n ≤ 2 * most
  bounds_by none took n e even = none-some took.0 e
  bounds_by (some b) took n e even = (whole_by b took n e even).few

  none_by : (o : Option (List ℕ)) → TookOf o before r after → r ≡ none → none ≡ words_by most o
  none_by none took e = refl
  none_by (some b) took e = none-some e took.1

module _ (most : ℕ) (w before after : List ℕ) (r : Option ℕ) (took : Took w before r after) (room : length before ≡ 2 * most + 1) where
  pub not_bytes : r ≡ none → none ≡ parse_words most w
  not_bytes e = none_by most before after r room (parse_bytes w) took e

  pub odd_bytes : (n : ℕ) → r ≡ some n → n % 2 ≡ 1 → none ≡ parse_words most w
  odd_bytes n e odd = odd_by most before after r room (parse_bytes w) took n e odd

  pub few_bytes : (n : ℕ) → r ≡ some n → (n % 2 ≡ 1 → ⊥) → n ≤ 2 * most
  few_bytes n e even = bounds_by most before after r room (parse_bytes w) took n e even

  pub good_bytes : (n : ℕ) → r ≡ some n → (n % 2 ≡ 1 → ⊥) → (words : List ℕ) → words ≡ words_of most (take n after) → some words ≡ parse_words most w
  good_bytes n e even words is = good_by most before after r room (parse_bytes w) took n e even words is

-- ---- so many bytes of the buffer
pub within : (most : ℕ) {before after n : ℕ} → before ≡ 2 * most + 1 → after ≡ before → n ≤ 2 * most → n ≤ after
within most room kept few = omega arith

pub even_length : {n m : ℕ} → m ≡ n → (n % 2 ≡ 1 → ⊥) → m % 2 ≡ 0
even_length {n} {m} e even =
    by_test (eqb (n % 2) 1) (λ t. absurd (even (eqb-true (n % 2) 1 t))) (λ t. let z = eqb-false (n % 2) 1 t in omega arith)

pub short_length : {n m most : ℕ} → m ≡ n → n ≤ most → m ≤ most
short_length e h = omega arith

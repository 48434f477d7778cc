-- What the code keeps of a field. Assumes nothing.
--
--   kept_none, kept_room, kept_full   no byte; one more where there is room, and where there is none
--   told                              the field ends here
--   nothing_digit, ..                 it goes on
--   pair_room, .., to_digit, ..       what the code does with a byte more, by the way it takes
--   reads_on                          whatever was kept, it keeps with the byte more
use mathlib.Core.Path.{◌≡◌, refl, sym, ap, ◌∙◌, subst}
use mathlib.Core.Bool.{true, false}
use mathlib.Core.List.{List, [], ◌∷◌, ◌++◌}
use Prim.Native.Nat.{ℕ, ◌+◌, ◌*◌, ◌%◌, ◌<◌, ◌≤◌}
use native.Mathlib.Numerals.{add-one}
use native.Mathlib.Omega.{arith}
use borrow.Author.Tests.{lt-ltb, le-ltb, ltb-true, ltb-false, eq-eqb, ne_eqb, eqb-true, eqb-false}
use lib.Dec.{eqb, ltb}
use lib.ListN.{length, take, set, length-append, length-set, length-take}
use lib.Seq.{take_all, take-append-le, take-suc-set}
use Rattle.base.proofs.Tests.{by_test}
use Rattle.fields.specs.Bytes.{hex_value}
use Rattle.hexfields.specs.declared.Part.{Part}
use Rattle.hexfields.specs.declared.Part.TheVariants as part
use Rattle.hexfields.specs.Fields.{Begun, is_digit, goes_on, says_now}
use Rattle.hexfields.specs.Reading.{PairPut, pair_of, read_to, read_of, Kept, PutsPair, Keeps, keeps_nothing, keeps_dash, keeps_even, keeps_odd, keeps_stray, ReadsOn, end_of, Tells}

-- ---- the bytes
pub kept_none : (buffer : List ℕ) → Kept [] 0 buffer
kept_none buffer =
    let e : take (length buffer) [] ≡ [] = take_all {A = ℕ} (length buffer) [] (omega arith) in
    record { size = sym (ap length e); is = sym e }

module _ (before : List ℕ) (at high low : ℕ) where
  abbrev byte : ℕ
  byte = 16 * (high % 16) + low % 16

  kept_room : at < length before → PutsPair before at high low (set before at byte) (at + 1)
  kept_room l = record {
    same_size = length-set before at byte;
    one_more = λ bytes h1 h2 k.
        let v : ℕ = 16 * high + low in
        let same : byte ≡ v = omega arith in
        let size : length bytes ≡ at = omega (arith, k.size, length-take (length before) bytes) in
        let longer : length (bytes ++ (v ∷ [])) ≡ at + 1 = length-append bytes (v ∷ []) ∙ omega arith in
        let room = length-set before at byte in
        let whole : take (length (set before at byte)) (bytes ++ (v ∷ [])) ≡ bytes ++ (v ∷ []) =
        take_all (length (set before at byte)) (bytes ++ (v ∷ [])) (omega arith) in
        let front : take at before ≡ bytes = k.is ∙ take_all (length before) bytes (omega arith) in
        record {
          size = sym longer ∙ sym (ap length whole);
          is =
              rw add-one (take-suc-set before at byte l)
              ∙ ap (λ (x : List ℕ). x ++ (byte ∷ [])) front
              ∙ ap (λ (x : ℕ). bytes ++ (x ∷ [])) same
              ∙ sym whole;
        };
  }

  kept_full : length before ≤ at → PutsPair before at high low before at
  kept_full l = record {
    same_size = refl;
    one_more = λ bytes h1 h2 k.
        let v : ℕ = 16 * high + low in
        let long : length before ≤ length bytes = omega (arith, k.size, length-take (length before) bytes) in
        let same : take (length before) (bytes ++ (v ∷ [])) ≡ take (length before) bytes = take-append-le (length before) bytes (v ∷ []) long in
        record { size = k.size ∙ sym (ap length same); is = k.is ∙ sym same };
  }

-- ---- the end
pub told : (b : Begun) (p : Part) (buffer : List ℕ) → Keeps b p buffer → Tells (says_now b) (end_of p) buffer
told b p buffer keeps_nothing = refl
told b p buffer keeps_dash = (0, refl, kept_none buffer)
told b p buffer (keeps_even {n} k) = (n, refl, k)
told b p buffer (keeps_odd h k) = refl
told b p buffer keeps_stray = refl

-- ---- a byte more, by what was kept
module _ (before : List ℕ) (p : Part) (c v : ℕ) (is : v ≡ hex_value c) where
  digit : v < 16 → is_digit c ≡ true
  digit h = lt-ltb (hex_value c) 16 (rw is at h)

  other : 16 ≤ v → is_digit c ≡ false
  other h = le-ltb (hex_value c) 16 (rw is at h)

  -- the buffer stays as it is
  stays : (o r : Part) → p ≡ o → ((b : Begun) → Keeps b o before → Keeps (goes_on b c) r before) → ReadsOn before p c before r
  stays o r e law = record { same_size = refl; goes_on = λ b k. law b (subst (λ (x : Part). Keeps b x before) e k) }

  nothing_digit : p ≡ part.Nothing → v < 16 → ReadsOn before p c before (part.Odd 0 v)
  nothing_digit e h = stays part.Nothing (part.Odd 0 v) e by_case
    where
      by_case : (b : Begun) → Keeps b part.Nothing before → Keeps (goes_on b c) (part.Odd 0 v) before
      by_case b keeps_nothing = rw (digit h, ← is) (keeps_odd h (kept_none before))

  nothing_dash : p ≡ part.Nothing → 16 ≤ v → c ≡ 45 → ReadsOn before p c before part.Dash
  nothing_dash e h d = stays part.Nothing part.Dash e by_case
    where
      by_case : (b : Begun) → Keeps b part.Nothing before → Keeps (goes_on b c) part.Dash before
      by_case b keeps_nothing = rw (other h, eq-eqb c 45 d) keeps_dash

  nothing_stray : p ≡ part.Nothing → 16 ≤ v → (c ≡ 45 → ⊥) → ReadsOn before p c before part.Stray
  nothing_stray e h d = stays part.Nothing part.Stray e by_case
    where
      by_case : (b : Begun) → Keeps b part.Nothing before → Keeps (goes_on b c) part.Stray before
      by_case b keeps_nothing = rw (other h, ne_eqb c 45 d) keeps_stray

  even_digit : (n : ℕ) → p ≡ part.Even n → v < 16 → ReadsOn before p c before (part.Odd n v)
  even_digit n e h = stays (part.Even n) (part.Odd n v) e by_case
    where
      by_case : (b : Begun) → Keeps b (part.Even n) before → Keeps (goes_on b c) (part.Odd n v) before
      by_case b (keeps_even k) = rw (digit h, ← is) (keeps_odd h k)

  even_stray : (n : ℕ) → p ≡ part.Even n → 16 ≤ v → ReadsOn before p c before part.Stray
  even_stray n e h = stays (part.Even n) part.Stray e by_case
    where
      by_case : (b : Begun) → Keeps b (part.Even n) before → Keeps (goes_on b c) part.Stray before
      by_case b (keeps_even k) = rw (other h) keeps_stray

  odd_digit : (n high : ℕ) → p ≡ part.Odd n high → v < 16 → (after : List ℕ) (m : ℕ) → PutsPair before n high v after m
      → ReadsOn before p c after (part.Even m)
  odd_digit n high e h after m puts =
      record { same_size = puts.same_size; goes_on = λ b k. by_case b (subst (λ (x : Part). Keeps b x before) e k) }
    where
      by_case : (b : Begun) → Keeps b (part.Odd n high) before → Keeps (goes_on b c) (part.Even m) after
      by_case b (keeps_odd {bytes} l k) = rw (digit h, ← is) (keeps_even (puts.one_more bytes l h k))

  odd_stray : (n high : ℕ) → p ≡ part.Odd n high → 16 ≤ v → ReadsOn before p c before part.Stray
  odd_stray n high e h = stays (part.Odd n high) part.Stray e by_case
    where
      by_case : (b : Begun) → Keeps b (part.Odd n high) before → Keeps (goes_on b c) part.Stray before
      by_case b (keeps_odd l k) = rw (other h) keeps_stray

  dash_stray : p ≡ part.Dash → ReadsOn before p c before part.Stray
  dash_stray e = stays part.Dash part.Stray e by_case
    where
      by_case : (b : Begun) → Keeps b part.Dash before → Keeps (goes_on b c) part.Stray before
      by_case b keeps_dash = keeps_stray

  stray_stray : p ≡ part.Stray → ReadsOn before p c before part.Stray
  stray_stray e = stays part.Stray part.Stray e by_case
    where
      by_case : (b : Begun) → Keeps b part.Stray before → Keeps (goes_on b c) part.Stray before
      by_case b keeps_stray = keeps_stray

-- ---- what the code does, on any value
module _ (before : List ℕ) (at high low : ℕ) where
  pub pair_room : at < length before → record { end = at + 1; buffer = set before at (16 * (high % 16) + low % 16) } ≡ pair_of before at high low
  pair_room l = rw (lt-ltb at (length before) l)

  pub pair_full : length before ≤ at → record { end = at; buffer = before } ≡ pair_of before at high low
  pair_full l = rw (le-ltb at (length before) l)

  puts_pair : PutsPair before at high low (pair_of before at high low).buffer (pair_of before at high low).end
  puts_pair =
      by_test (ltb at (length before))
      (λ t. rw t (kept_room before at high low (ltb-true at (length before) t)))
      (λ t. rw t (kept_full before at high low (ltb-false at (length before) t)))

module _ (before : List ℕ) (p : Part) (c v : ℕ) (is : v ≡ hex_value c) where
  pub to_digit : p ≡ part.Nothing → v < 16 → read_to before (part.Odd 0 v) ≡ read_of before p c
  to_digit e h = rw (e, digit before p c v is h, is)

  pub to_dash : p ≡ part.Nothing → 16 ≤ v → c ≡ 45 → read_to before part.Dash ≡ read_of before p c
  to_dash e h d = rw (e, other before p c v is h, eq-eqb c 45 d)

  pub to_other : p ≡ part.Nothing → 16 ≤ v → (c ≡ 45 → ⊥) → read_to before part.Stray ≡ read_of before p c
  to_other e h d = rw (e, other before p c v is h, ne_eqb c 45 d)

  pub even_to_digit : (n : ℕ) → p ≡ part.Even n → v < 16 → read_to before (part.Odd n v) ≡ read_of before p c
  even_to_digit n e h = rw (e, digit before p c v is h, is)

  pub even_to_stray : (n : ℕ) → p ≡ part.Even n → 16 ≤ v → read_to before part.Stray ≡ read_of before p c
  even_to_stray n e h = rw (e, other before p c v is h)

  pub odd_to_even : (n high : ℕ) → p ≡ part.Odd n high → v < 16 → (after : List ℕ) (m : ℕ) → record { end = m; buffer = after } ≡ pair_of before n high v
      → read_to after (part.Even m) ≡ read_of before p c
  odd_to_even n high e h after m puts = rw (e, digit before p c v is h, ← is) (ap (λ (x : PairPut). read_to x.buffer (part.Even x.end)) puts)

  pub odd_to_stray : (n high : ℕ) → p ≡ part.Odd n high → 16 ≤ v → read_to before part.Stray ≡ read_of before p c
  odd_to_stray n high e h = rw (e, other before p c v is h)

  pub dash_to_stray : p ≡ part.Dash → read_to before part.Stray ≡ read_of before p c
  dash_to_stray e = rw e

  pub stray_to_stray : p ≡ part.Stray → read_to before part.Stray ≡ read_of before p c
  stray_to_stray e = rw e

-- and it keeps what was read
pub reads_on : (before : List ℕ) (p : Part) (c : ℕ) → ReadsOn before p c (read_of before p c).buffer (read_of before p c).part
reads_on before part.Nothing c =
    by_test (is_digit c)
    (λ t. rw t (nothing_digit before part.Nothing c (hex_value c) refl refl (ltb-true (hex_value c) 16 t)))
    (λ t.
    let h = ltb-false (hex_value c) 16 t in
    by_test (eqb c 45)
    (λ d. rw (t, d) (nothing_dash before part.Nothing c (hex_value c) refl refl h (eqb-true c 45 d)))
    (λ d. rw (t, d) (nothing_stray before part.Nothing c (hex_value c) refl refl h (eqb-false c 45 d))))
reads_on before part.Dash c = dash_stray before part.Dash c (hex_value c) refl refl
reads_on before (part.Even n) c =
    by_test (is_digit c)
    (λ t. rw t (even_digit before (part.Even n) c (hex_value c) refl n refl (ltb-true (hex_value c) 16 t)))
    (λ t. rw t (even_stray before (part.Even n) c (hex_value c) refl n refl (ltb-false (hex_value c) 16 t)))
reads_on before (part.Odd n high) c =
    let pair = pair_of before n high (hex_value c) in
    by_test (is_digit c)
    (λ t. rw t (odd_digit before (part.Odd n high) c (hex_value c) refl n high refl (ltb-true (hex_value c) 16 t) pair.buffer pair.end (puts_pair before n high (hex_value c))))
    (λ t. rw t (odd_stray before (part.Odd n high) c (hex_value c) refl n high refl (ltb-false (hex_value c) 16 t)))
reads_on before part.Stray c = stray_stray before part.Stray c (hex_value c) refl refl

-- A line that is longer than any accepted call needs is told by its first bytes and by whether the
-- rest is hex digits, even in number: its last field is then too long for a number, a file and a band
-- alike. Assumes nothing.
--
--   Tells a b      a line of the meaning a has the outcome of a line of the meaning b
--   stray_call     the rest is not hex digits: the line is malformed
--   hex_line       the rest is hex digits, even in number: the line comes to what its first bytes
--                  come to
--   told           so 65,821 bytes tell lines apart
use mathlib.Core.Path.{◌≡◌, refl, ap, ◌∙◌}
use mathlib.Core.Bool.{Bool, true, false, cond}
use mathlib.Core.List.{List, ◌++◌}
use mathlib.Core.Option.{Option, none, some}
use Prim.Native.Nat.{ℕ, suc, ◌+◌, ◌-◌, ◌%◌, ◌≤◌, ◌<◌}
use native.Mathlib.Omega.{arith}
use borrow.Author.Tests.{ne_eqb, ltb-true, ltb-false}
use lib.Dec.{eqb, ltb}
use lib.ListN.{length, drop, length-append, length-drop}
use lib.Seq.{drop-append-le}
use Rattle.base.proofs.Tests.{by_test}
use Rattle.lines.specs.Splitting.{begins, up_to, past}
use Rattle.lines.proofs.Splits.{up_append, past_there}
use Rattle.fields.specs.Numbers.{parse_number}
use Rattle.fields.specs.Bytes.{all_hex, parse_bytes}
use Rattle.fields.proofs.Digits.{said_long}
use Rattle.longlines.proofs.Tails.{begins_append, up_more, past_append, tail_stray, tail_bytes}
use Rattle.linetexts.specs.Beginnings.{Told}
use Rattle.linetexts.proofs.Lists.{told_lists}
use Rattle.linetexts.specs.Lists.{list_teller}
use Rattle.trays.specs.declared.Tray.{Tray}
use Rattle.trays.specs.Calls.{delivers, asks_verdict}
use Rattle.traytext.specs.Lines.{Meaning, call, row_file, column_file, malformed, row_word, column_word, open_word, deliver_word, withdraw_word, verdict_word, row_by, column_by, open_by, withdraw_by, deliver_by, open_fields, deliver_fields, call_in, line_in}
use Rattle.traylines.specs.Running.{reply_of, line_step}
use Rattle.traylines.proofs.Clipped.{rows_long, columns_long, delivers_long}
use Rattle.traystream.specs.Texts.{told_as, tray_list}

-- ---- fields that are malformed
verdict_long : (u : List ℕ) → 7 < length u → cond (eqb (length u) 7) (call asks_verdict) malformed ≡ malformed
verdict_long u h = rw (ne_eqb (length u) 7 (λ e. omega arith))

withdraw_long : (u : List ℕ) → 20 < length u → withdraw_by (parse_number u) ≡ malformed
withdraw_long u h = ap withdraw_by (said_long u h)

no_bands : (o : Option ℕ) → open_by o none ≡ malformed
no_bands none = refl
no_bands (some w) = refl

no_bytes : (p : Option ℕ) → deliver_by p none ≡ malformed
no_bytes none = refl
no_bytes (some p) = refl

first_long : (f : List ℕ) (o : Option (List ℕ)) → 20 < length f → open_fields f o ≡ malformed
first_long f none h = refl
first_long f (some n) h = ap (λ (x : Option ℕ). open_by x (parse_number n)) (said_long f h)

band_long : (f : List ℕ) (o : Option (List ℕ)) → 20 < length f → deliver_fields f o ≡ malformed
band_long f none h = refl
band_long f (some b) h = ap (λ (x : Option ℕ). deliver_by x (parse_bytes b)) (said_long f h)

-- ---- what a line comes to
record Tells (a b : Meaning) : Type 0 where
  steps : (t : Tray) → line_step t a ≡ line_step t b

tells_malformed : {a b : Meaning} → a ≡ malformed → b ≡ malformed → Tells a b
tells_malformed e f = rw (e, f) (record { steps = λ t. refl })

tells_cond : (b : Bool) (x x' y y' : Meaning) → Tells x x' → Tells y y' → Tells (cond b x y) (cond b x' y')
tells_cond true x x' y y' t e = t
tells_cond false x x' y y' t e = e

cond_malformed : (b : Bool) (x y : Meaning) → x ≡ malformed → y ≡ malformed → cond b x y ≡ malformed
cond_malformed true x y t e = t
cond_malformed false x y t e = e

tells_rows : (f g : List ℕ) → 32907 ≤ length f → 32907 ≤ length g → Tells (row_file f) (row_file g)
tells_rows f g hf hg = record { steps = λ t. ap reply_of (rows_long t f g (omega arith) (omega arith)) }

tells_columns : (f g : List ℕ) → 32907 ≤ length f → 32907 ≤ length g → Tells (column_file f) (column_file g)
tells_columns f g hf hg = record { steps = λ t. ap reply_of (columns_long t f g (omega arith) (omega arith)) }

tells_delivers : (p : ℕ) (f g : List ℕ) → 1025 ≤ length f → 1025 ≤ length g → Tells (call (delivers p f)) (call (delivers p g))
tells_delivers p f g hf hg = record { steps = λ t. ap reply_of (delivers_long t p f g (omega arith) (omega arith)) }

-- ---- two fields
-- what stands behind the first space
abbrev behind : List ℕ → List ℕ
behind u = drop (suc (length (up_to 32 u))) u

abbrev open_in : List ℕ → Meaning
open_in u = open_fields (up_to 32 u) (past 32 u)

abbrev deliver_in : List ℕ → Meaning
deliver_in u = deliver_fields (up_to 32 u) (past 32 u)

-- the first field of u is too long for a number, or near enough to its beginning
far_or_near : (u : List ℕ) (P : Type 0) → (20 < length (up_to 32 u) → P) → (length (up_to 32 u) ≤ 20 → P) → P
far_or_near u P far near =
    by_test (ltb 20 (length (up_to 32 u)))
    (λ b. far (ltb-true 20 (length (up_to 32 u)) b))
    (λ b. near (ltb-false 20 (length (up_to 32 u)) b))

-- m bytes at least are behind a field that is near
module _ (u : List ℕ) (m : ℕ) (long : 21 + m ≤ length u) (near : length (up_to 32 u) ≤ 20) where
  inside : length (up_to 32 u) < length u
  inside = omega (arith, near, long)

  behind_long : m ≤ length (behind u)
  behind_long = rw (length-drop (suc (length (up_to 32 u))) u) (omega (arith, near, long))

open_long : (u : List ℕ) → 42 ≤ length u → open_in u ≡ malformed
open_long u h =
    far_or_near u (open_in u ≡ malformed)
    (λ far. first_long (up_to 32 u) (past 32 u) far)
    (λ near.
    ap (open_fields (up_to 32 u)) (past_there 32 u (inside u 21 h near))
    ∙ ap (open_by (parse_number (up_to 32 u))) (said_long (behind u) (omega (arith, behind_long u 21 h near)))
    ∙ no_bands (parse_number (up_to 32 u)))

-- a delivery that goes on with t
module _ (u t : List ℕ) (long : 2071 ≤ length u) where
  deliver_far : 20 < length (up_to 32 u) → deliver_in u ≡ malformed
  deliver_far far = band_long (up_to 32 u) (past 32 u) far

  deliver_far_more : 20 < length (up_to 32 u) → deliver_in (u ++ t) ≡ malformed
  deliver_far_more far = band_long (up_to 32 (u ++ t)) (past 32 (u ++ t)) (omega (arith, far, up_more 32 u t))

  module _ (near : length (up_to 32 u) ≤ 20) where
    deliver_near : deliver_in u ≡ deliver_by (parse_number (up_to 32 u)) (parse_bytes (behind u))
    deliver_near = rw (past_there 32 u (inside u 2050 long near))

    deliver_near_more : deliver_in (u ++ t) ≡ deliver_by (parse_number (up_to 32 u)) (parse_bytes (behind u ++ t))
    deliver_near_more = rw (past_append 32 u t (inside u 2050 long near), up_append 32 u t (inside u 2050 long near))

  stray_band : all_hex t ≡ false → deliver_in (u ++ t) ≡ malformed
  stray_band stray =
      far_or_near u (deliver_in (u ++ t) ≡ malformed)
      deliver_far_more
      (λ near.
      let p = parse_number (up_to 32 u) in
      deliver_near_more near
      ∙ ap (deliver_by p) (tail_stray (behind u) t (omega (arith, behind_long u 2050 long near)) stray)
      ∙ no_bytes p)

  hex_bytes : all_hex t ≡ true → length t % 2 ≡ 0 → (p : Option ℕ) → 2050 ≤ length (behind u)
      → Tells (deliver_by p (parse_bytes (behind u))) (deliver_by p (parse_bytes (behind u ++ t)))
  hex_bytes hex even none l = tells_malformed refl refl
  hex_bytes hex even (some p) l =
      tail_bytes (behind u) t (omega arith) hex even 1025 (omega arith)
      (λ a b. Tells (deliver_by (some p) a) (deliver_by (some p) b))
      (tells_malformed refl refl)
      (tells_delivers p)

  hex_band : all_hex t ≡ true → length t % 2 ≡ 0 → Tells (deliver_in u) (deliver_in (u ++ t))
  hex_band hex even =
      far_or_near u (Tells (deliver_in u) (deliver_in (u ++ t)))
      (λ far. tells_malformed (deliver_far far) (deliver_far_more far))
      (λ near.
      rw (deliver_near near, deliver_near_more near)
      (hex_bytes hex even (parse_number (up_to 32 u)) (behind_long u 2050 long near)))

-- ---- the line v ++ t
module _ (v t : List ℕ) (long : 65821 ≤ length v) where
  rest : (k : ℕ) → k ≤ 9 → drop k (v ++ t) ≡ drop k v ++ t
  rest k h = drop-append-le k v t (omega arith)

  rest_long : (k : ℕ) → k ≤ 9 → 65821 - k ≤ length (drop k v)
  rest_long k h = rw (length-drop k v) (omega arith)

  more_long : (k : ℕ) → k ≤ 9 → 65821 - k ≤ length (drop k (v ++ t))
  more_long k h = rw (rest k h, length-append (drop k v) t) (omega (arith, rest_long k h))

  word : (h : List ℕ) → length h ≤ 9 → begins h (v ++ t) ≡ begins h v
  word h l = begins_append h v t (omega arith)

  some_bytes : line_in v ≡ call_in v
  some_bytes = rw (ne_eqb (length v) 0 (λ e. omega arith))

  more_bytes : line_in (v ++ t) ≡ call_in (v ++ t)
  more_bytes = rw (ne_eqb (length (v ++ t)) 0 (λ e. omega (arith, length-append v t)))

  verdict_v : cond (eqb (length v) 7) (call asks_verdict) malformed ≡ malformed
  verdict_v = verdict_long v (omega arith)

  verdict_more : cond (eqb (length (v ++ t)) 7) (call asks_verdict) malformed ≡ malformed
  verdict_more = verdict_long (v ++ t) (omega (arith, length-append v t))

  open_v : open_in (drop 5 v) ≡ malformed
  open_v = open_long (drop 5 v) (omega (arith, rest_long 5 (omega arith)))

  open_more : open_in (drop 5 (v ++ t)) ≡ malformed
  open_more = open_long (drop 5 (v ++ t)) (omega (arith, more_long 5 (omega arith)))

  withdraw_v : withdraw_by (parse_number (drop 9 v)) ≡ malformed
  withdraw_v = withdraw_long (drop 9 v) (omega (arith, rest_long 9 (omega arith)))

  withdraw_more : withdraw_by (parse_number (drop 9 (v ++ t))) ≡ malformed
  withdraw_more = withdraw_long (drop 9 (v ++ t)) (omega (arith, more_long 9 (omega arith)))

  module _ (stray : all_hex t ≡ false) where
    stray_row : row_by (parse_bytes (drop 4 (v ++ t))) ≡ malformed
    stray_row = rw (rest 4 (omega arith), tail_stray (drop 4 v) t (omega (arith, rest_long 4 (omega arith))) stray)

    stray_column : column_by (parse_bytes (drop 7 (v ++ t))) ≡ malformed
    stray_column = rw (rest 7 (omega arith), tail_stray (drop 7 v) t (omega (arith, rest_long 7 (omega arith))) stray)

    stray_deliver : deliver_in (drop 8 (v ++ t)) ≡ malformed
    stray_deliver = rw (rest 8 (omega arith)) (stray_band (drop 8 v) t (omega (arith, rest_long 8 (omega arith))) stray)

    stray_call : call_in (v ++ t) ≡ malformed
    unfolding call_in
    stray_call =
        cond_malformed (begins verdict_word (v ++ t)) _ _ verdict_more
        (cond_malformed (begins row_word (v ++ t)) _ _ stray_row
        (cond_malformed (begins column_word (v ++ t)) _ _ stray_column
        (cond_malformed (begins open_word (v ++ t)) _ _ open_more
        (cond_malformed (begins deliver_word (v ++ t)) _ _ stray_deliver
        (cond_malformed (begins withdraw_word (v ++ t)) _ _ withdraw_more refl)))))

  module _ (hex : all_hex t ≡ true) (even : length t % 2 ≡ 0) where
    hex_row : Tells (row_by (parse_bytes (drop 4 v))) (row_by (parse_bytes (drop 4 (v ++ t))))
    hex_row =
        let l = rest_long 4 (omega arith) in
        rw (rest 4 (omega arith))
        (tail_bytes (drop 4 v) t (omega (arith, l)) hex even 32907 (omega (arith, l)) (λ a b. Tells (row_by a) (row_by b)) (tells_malformed refl refl) tells_rows)

    hex_column : Tells (column_by (parse_bytes (drop 7 v))) (column_by (parse_bytes (drop 7 (v ++ t))))
    hex_column =
        let l = rest_long 7 (omega arith) in
        rw (rest 7 (omega arith))
        (tail_bytes (drop 7 v) t (omega (arith, l)) hex even 32907 (omega (arith, l)) (λ a b. Tells (column_by a) (column_by b)) (tells_malformed refl refl) tells_columns)

    hex_deliver : Tells (deliver_in (drop 8 v)) (deliver_in (drop 8 (v ++ t)))
    hex_deliver = rw (rest 8 (omega arith)) (hex_band (drop 8 v) t (omega (arith, rest_long 8 (omega arith))) hex even)

    hex_call : Tells (call_in v) (call_in (v ++ t))
    unfolding call_in
    hex_call =
        rw (word verdict_word (omega arith), word row_word (omega arith), word column_word (omega arith), word open_word (omega arith), word deliver_word (omega arith), word withdraw_word (omega arith))
        (tells_cond (begins verdict_word v) _ _ _ _ (tells_malformed verdict_v verdict_more)
        (tells_cond (begins row_word v) _ _ _ _ hex_row
        (tells_cond (begins column_word v) _ _ _ _ hex_column
        (tells_cond (begins open_word v) _ _ _ _ (tells_malformed open_v open_more)
        (tells_cond (begins deliver_word v) _ _ _ _ hex_deliver
        (tells_cond (begins withdraw_word v) _ _ _ _ (tells_malformed withdraw_v withdraw_more) (tells_malformed refl refl)))))))

    hex_line : Tells (line_in v) (line_in (v ++ t))
    hex_line = rw (some_bytes, more_bytes) hex_call

pub told : Told (list_teller tray_list)
told =
    told_lists tray_list (omega arith)
    (λ j. record {
      stray = λ v t long stray. ap (λ (m : Meaning). told_as (line_step j m)) (more_bytes v t long ∙ stray_call v t long stray);
      hex = λ v t long hex even. ap told_as ((hex_line v t long hex even).steps j);
    })

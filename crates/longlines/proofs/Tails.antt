-- A line that goes on: what its first bytes decide, and bytes in a field whose rest is told by
-- whether it is hex digits, even in number. Assumes nothing.
--
--   begins_append                     the first word
--   up_more, past_append              what stands before the first c, and behind it
--   bytes_stray, bytes_odd, bytes_even, bytes_either   a field of two bytes at least
--   tail_stray, tail_bytes            the same, that goes on
use mathlib.Core.Path.{◌≡◌, refl, ap, ◌∙◌}
use mathlib.Core.Bool.{Bool, true, false, cond, ◌&&◌, and-true, and-false}
use mathlib.Core.List.{List, [], ◌∷◌, ◌++◌}
use mathlib.Core.Option.{Option, none, some}
use Prim.Native.Nat.{ℕ, suc, ◌+◌, ◌%◌, ◌≤◌, ◌<◌}
use native.Mathlib.Omega.{arith}
use borrow.Author.Tests.{le-leb, ne_eqb}
use lib.Dec.{eqb}
use lib.ListN.{length, drop, length-append}
use lib.Seq.{drop-append-le}
use Rattle.base.proofs.Tests.{by_test, either}
use Rattle.lines.specs.Splitting.{begins, up_to, past}
use Rattle.lines.proofs.Splits.{up_append, past_there}
use Rattle.fields.specs.Bytes.{all_hex, pairs, parse_bytes}
use Rattle.fields.proofs.Pairs.{hex_append, pairs_length}

-- ---- a text that goes on
pub begins_append : (h v t : List ℕ) → length h ≤ length v → begins h (v ++ t) ≡ begins h v
unfolding begins
begins_append [] v t l = refl
begins_append (c ∷ h) [] t l = absurd (omega arith)
begins_append (c ∷ h) (x ∷ v) t l = ap (λ (b : Bool). eqb x c && b) (begins_append h v t (omega arith))

module _ (c : ℕ) where
  pub up_more : (v t : List ℕ) → length (up_to c v) ≤ length (up_to c (v ++ t))
  unfolding up_to
  up_more [] t = omega arith
  up_more (x ∷ v) t =
      either (eqb x c)
      (λ b. length (cond b [] (x ∷ up_to c v)) ≤ length (cond b [] (x ∷ up_to c (v ++ t))))
      (omega arith)
      (omega (arith, up_more v t))

  pub past_append : (v t : List ℕ) → length (up_to c v) < length v → past c (v ++ t) ≡ some (drop (suc (length (up_to c v))) v ++ t)
  past_append v t h =
      let m = length (up_to c v) in
      let e = up_append c v t h in
      past_there c (v ++ t) (rw (e, length-append v t) (omega arith))
      ∙ rw (e, drop-append-le (suc m) v t (omega arith))

-- ---- bytes in a field of two bytes at least
module _ (v : List ℕ) (two : 2 ≤ length v) where
  pub bytes_stray : all_hex v ≡ false → parse_bytes v ≡ none
  unfolding parse_bytes
  bytes_stray e =
      rw (ne_eqb (length v) 1 (λ o. omega arith), e, and-false (eqb (length v % 2) 0), le-leb 1 (length v) (omega arith))

  pub bytes_odd : eqb (length v % 2) 0 ≡ false → parse_bytes v ≡ none
  unfolding parse_bytes
  bytes_odd e = rw (ne_eqb (length v) 1 (λ o. omega arith), e, le-leb 1 (length v) (omega arith))

  pub bytes_even : eqb (length v % 2) 0 ≡ true → all_hex v ≡ true → parse_bytes v ≡ some (pairs v)
  unfolding parse_bytes
  bytes_even e a = rw (ne_eqb (length v) 1 (λ o. omega arith), e, a, le-leb 1 (length v) (omega arith))

  -- it says no bytes, or some
  pub bytes_either : (P : Option (List ℕ) → Type 0) → P none → P (some (pairs v)) → P (parse_bytes v)
  bytes_either P neither some_bytes =
      by_test (eqb (length v % 2) 0)
      (λ e. by_test (all_hex v) (λ a. rw (bytes_even e a) some_bytes) (λ a. rw (bytes_stray a) neither))
      (λ e. rw (bytes_odd e) neither)

module _ (v t : List ℕ) (two : 2 ≤ length v) where
  more_two : 2 ≤ length (v ++ t)
  more_two = rw (length-append v t) (omega arith)

  pub tail_stray : all_hex t ≡ false → parse_bytes (v ++ t) ≡ none
  tail_stray e = bytes_stray (v ++ t) more_two (rw (hex_append v t, e) (and-false (all_hex v)))

  module _ (hex : all_hex t ≡ true) (even : length t % 2 ≡ 0) where
    parity : length (v ++ t) % 2 ≡ length v % 2
    parity = rw (length-append v t) (omega arith)

    hex_same : all_hex (v ++ t) ≡ all_hex v
    hex_same = rw (hex_append v t, hex) (and-true (all_hex v))

    -- both say no bytes, or both say at least m
    pub tail_bytes : (m : ℕ) → m + m ≤ length v → (P : Option (List ℕ) → Option (List ℕ) → Type 0) → P none none
        → ((f g : List ℕ) → m ≤ length f → m ≤ length g → P (some f) (some g)) → P (parse_bytes v) (parse_bytes (v ++ t))
    tail_bytes m l P neither both =
        by_test (eqb (length v % 2) 0)
        (λ e. by_test (all_hex v)
        (λ a.
        rw (bytes_even v two e a, bytes_even (v ++ t) more_two (rw parity e) (rw hex_same a))
        (both (pairs v) (pairs (v ++ t)) (omega (arith, pairs_length v)) (omega (arith, pairs_length (v ++ t), length-append v t))))
        (λ a. rw (bytes_stray v two a, bytes_stray (v ++ t) more_two (rw hex_same a)) neither))
        (λ e. rw (bytes_odd v two e, bytes_odd (v ++ t) more_two (rw parity e)) neither)

-- What a buffer keeps of a line that goes on. Assumes nothing.
--
--   odd_sum                    whether a sum is odd
--   kept_none                  the empty line
--   same_size                  the buffer keeps its length
--   kept_on                    a line and a piece behind it
--   fits-prefix, fits_room     the part of the piece that fits
--   holds_buffer, holds-held   what `hold` does is what the definitions say
use mathlib.Core.Path.{◌≡◌, refl, sym, ap, ap₂, ◌∙◌}
use mathlib.Core.Bool.{Bool, true, false, not, ◌&&◌}
use mathlib.Core.List.{List, [], ◌++◌, append-nil, append_assoc}
use Prim.Native.Nat.{ℕ, ◌+◌, ◌-◌, ◌%◌, ◌≤◌, min}
use native.Mathlib.Omega.{arith}
use borrow.Author.Tests.{eq-eqb, ne_eqb, eqb-true, eqb-false, ltb-true, ltb-false}
use lib.Dec.{eqb, ltb}
use lib.ListN.{length, take, drop, length-append, length-drop, drop_of_length-le}
use lib.Seq.{take_all, take_at, length-take-le, take-append-add, drop-append-add, take-append-le, drop-append-le}
use Rattle.base.proofs.Tests.{by_test}
use Rattle.text.specs.Writing.{written, Wrote}
use Rattle.text.proofs.Pieces.{wrote_length}
use Rattle.fields.specs.Bytes.{all_hex}
use Rattle.fields.proofs.Pairs.{hex_append}
use Rattle.longlines.specs.declared.Held.{Held}
use Rattle.longlines.specs.Holding.{line_begin, kept_length, taken, odd_with, held_after, buffer_after, standing}
use Rattle.longlines.specs.Claims.{Keeps}

-- ---- tests
pub hex_both : (h r : Bool) (m : List ℕ) → h ≡ true → r ≡ all_hex m → r ≡ h && all_hex m
hex_both h r m e is = rw e is

pub odd_so : (odd : Bool) (more : ℕ) → more % 2 ≡ 1 → not odd ≡ odd_with odd more
odd_so odd more e = rw (eq-eqb (more % 2) 1 e)

pub odd_not : (odd : Bool) (more : ℕ) → (more % 2 ≡ 1 → ⊥) → odd ≡ odd_with odd more
odd_not odd more e = rw (ne_eqb (more % 2) 1 e)

pub stands_less : (odd : Bool) (n : ℕ) → odd ≡ true → n - 1 ≡ standing odd n
stands_less odd n e = rw e

pub stands_none : (odd : Bool) (n : ℕ) → odd ≡ true → n ≤ 0 → 0 ≡ standing odd n
stands_none odd n e h = rw e (omega arith)

odd_sum : (a b : ℕ) → eqb ((a + b) % 2) 1 ≡ odd_with (eqb (a % 2) 1) b
odd_sum a b =
    by_test (eqb (b % 2) 1)
    (λ e.
    let b-odd = eqb-true (b % 2) 1 e in
    by_test (eqb (a % 2) 1)
    (λ f. let a-odd = eqb-true (a % 2) 1 f in rw (e, f) (ne_eqb ((a + b) % 2) 1 (λ z. omega (arith, z, a-odd, b-odd))))
    (λ f. let a-even = eqb-false (a % 2) 1 f in rw (e, f) (eq-eqb ((a + b) % 2) 1 (omega (arith, a-even, b-odd)))))
    (λ e.
    let b-even = eqb-false (b % 2) 1 e in
    by_test (eqb (a % 2) 1)
    (λ f. let a-odd = eqb-true (a % 2) 1 f in rw (e, f) (eq-eqb ((a + b) % 2) 1 (omega (arith, a-odd, b-even))))
    (λ f. let a-even = eqb-false (a % 2) 1 f in rw (e, f) (ne_eqb ((a + b) % 2) 1 (λ z. omega (arith, z, a-even, b-even)))))

-- no more than there is
take_least : (l : List ℕ) (n : ℕ) → take (min (length l) n) l ≡ take n l
take_least l n =
    by_test (ltb (length l) n)
    (λ t.
    let h = ltb-true (length l) n t in
    take_all (min (length l) n) l (omega (arith, h)) ∙ sym (take_all n l (omega (arith, h))))
    (λ t.
    let e : min (length l) n ≡ n = omega (arith, ltb-false (length l) n t) in
    ap (λ (k : ℕ). take k l) e)

drop_least : (l : List ℕ) (n : ℕ) → drop (min (length l) n) l ≡ drop n l
drop_least l n =
    by_test (ltb (length l) n)
    (λ t.
    let h = ltb-true (length l) n t in
    let a : length l ≤ min (length l) n = omega (arith, h) in
    let b : length l ≤ n = omega (arith, h) in
    drop_of_length-le l a ∙ sym (drop_of_length-le l b))
    (λ t.
    let e : min (length l) n ≡ n = omega (arith, ltb-false (length l) n t) in
    ap (λ (k : ℕ). drop k l) e)

pub nothing_left : (w : List ℕ) (n : ℕ) → length w ≤ n → (true ≡ all_hex (drop n w)) × (false ≡ eqb (length (drop n w) % 2) 1)
unfolding all_hex
nothing_left w n h = (rw (drop_of_length-le w h), rw (drop_of_length-le w h))

pub kept_none : (buffer : List ℕ) → Keeps buffer line_begin []
kept_none buffer =
    let e = nothing_left [] (length buffer) (omega arith) in
    record { size = omega arith; head = sym (take_all (length buffer) [] (omega arith)); hex = e.0; odd = e.1 }

-- ---- a line goes on, in any buffer and with any value
module _ (before : List ℕ) (held : Held) (piece : List ℕ) where
  part_length : length (take (taken before held piece) piece) ≡ taken before held piece
  part_length = length-take-le (taken before held piece) piece (omega arith)

  part_room : kept_length before held + length (take (taken before held piece) piece) ≤ length before
  part_room = omega (arith, part_length)

  pub same_size : length (buffer_after before held piece) ≡ length before
  unfolding buffer_after
  same_size =
      wrote_length before (kept_length before held) (take (taken before held piece) piece)
      (buffer_after before held piece)
      (kept_length before held + length (take (taken before held piece) piece))
      part_room
      (record { is = refl; ends = refl })

-- ---- the line w is kept before
module _ (before : List ℕ) (held : Held) (w piece : List ℕ) (kept : Keeps before held w) (after : List ℕ) (after_is : after ≡ buffer_after before held piece)
    (at fits end : ℕ) (at-is : at ≡ kept_length before held) (fits-is : fits ≡ taken before held piece) (end_is : end ≡ at + fits) where
  same : length after ≡ length before
  same = ap length after_is ∙ same_size before held piece

  -- what the buffer has now
  has : take end after ≡ take (length before) w ++ take fits piece
  unfolding buffer_after
  has =
      let P = take fits piece in
      let wrote : after ≡ written before at P =
      after_is ∙ ap₂ (λ (a f : ℕ). written before a (take f piece)) (sym at-is) (sym fits-is) in
      let size : length P ≡ fits = length-take-le fits piece (omega (arith, fits-is)) in
      let whole : length (take at before ++ P) ≡ end =
      length-append (take at before) P ∙ omega (arith, length-take-le at before (omega (arith, at-is)), size, end_is) in
      let at_held : at ≡ held.length = omega (arith, at-is, kept.size) in
      ap (take end) (wrote ∙ sym (append_assoc (take at before) P (drop (at + length P) before)))
      ∙ take_at (take at before ++ P) (drop (at + length P) before) end whole
      ∙ ap (λ (v : List ℕ). v ++ P) (ap (λ (n : ℕ). take n before) at_held ∙ kept.head)

  size_is : end ≡ min (length (w ++ piece)) (length after)
  size_is = omega (arith, end_is, at-is, fits-is, kept.size, same, length-append w piece)

  -- what is before it and what is behind it, in the longer line
  module _ (front : take (length before) (w ++ piece) ≡ take (length before) w ++ take fits piece)
      (behind : drop (length before) (w ++ piece) ≡ drop (length before) w ++ drop fits piece) where
    kept_by : Keeps after (record { length = end; hex = held.hex && all_hex (drop fits piece); odd = odd_with held.odd (length piece - fits) }) (w ++ piece)
    kept_by =
        let back : drop (length after) (w ++ piece) ≡ drop (length before) w ++ drop fits piece = ap (λ (n : ℕ). drop n (w ++ piece)) same ∙ behind in
        record {
          size = size_is;
          head = has ∙ sym front ∙ ap (λ (n : ℕ). take n (w ++ piece)) (sym same);
          hex =
              ap (λ (b : Bool). b && all_hex (drop fits piece)) kept.hex
              ∙ sym (ap all_hex back ∙ hex_append (drop (length before) w) (drop fits piece));
          odd =
              ap₂ odd_with kept.odd (sym (length-drop fits piece))
              ∙ sym (ap (λ (v : List ℕ). eqb (length v % 2) 1) back ∙ ap (λ (n : ℕ). eqb (n % 2) 1) (length-append (drop (length before) w) (drop fits piece)) ∙ odd_sum (length (drop (length before) w)) (length (drop fits piece)));
        }

  kept_at_lem : Keeps after (record { length = end; hex = held.hex && all_hex (drop fits piece); odd = odd_with held.odd (length piece - fits) }) (w ++ piece)
  kept_at_lem =
      by_test (ltb (length w) (length before))
      (λ t.
      let room = ltb-true (length w) (length before) t in
      let left = length before - length w in
      let sum : length w + left ≡ length before = omega (arith, room) in
      let fit : fits ≡ min (length piece) left = omega (arith, fits-is, kept.size) in
      let all : take (length before) w ≡ w = take_all (length before) w (omega (arith, room)) in
      let most : length w ≤ length before = omega (arith, room) in
      let none : drop (length before) w ≡ [] = drop_of_length-le w most in
      kept_by
      (ap (λ (n : ℕ). take n (w ++ piece)) (sym sum) ∙ take-append-add w piece left ∙ ap₂ (λ (u v : List ℕ). u ++ v) (sym all) (sym (ap (λ (n : ℕ). take n piece) fit ∙ take_least piece left)))
      (ap (λ (n : ℕ). drop n (w ++ piece)) (sym sum) ∙ drop-append-add w piece left ∙ ap₂ (λ (u v : List ℕ). u ++ v) (sym none) (sym (ap (λ (n : ℕ). drop n piece) fit ∙ drop_least piece left))))
      (λ t.
      let full = ltb-false (length w) (length before) t in
      let fit : fits ≡ 0 = omega (arith, fits-is, kept.size, full) in
      kept_by
      (take-append-le (length before) w piece full ∙ sym (ap (λ (n : ℕ). take (length before) w ++ take n piece) fit ∙ append-nil (take (length before) w)))
      (drop-append-le (length before) w piece full ∙ ap (λ (n : ℕ). drop (length before) w ++ drop n piece) (sym fit)))

pub kept_on : (before : List ℕ) (held : Held) (w piece : List ℕ) → Keeps before held w
    → Keeps (buffer_after before held piece) (held_after before held piece) (w ++ piece)
unfolding held_after
kept_on before held w piece kept = kept_at_lem before held w piece kept (buffer_after before held piece) refl (kept_length before held) (taken before held piece) _ refl refl refl

-- ---- what `hold` does: `fits` bytes of the piece go into the buffer from `at` on
module _ (before : List ℕ) (held : Held) (piece : List ℕ) (at fits : ℕ) (at-is : at ≡ kept_length before held)
    (fits-is : fits ≡ min (length piece) (length before - at)) where
  fits_taken : fits ≡ taken before held piece
  fits_taken = fits-is ∙ ap (λ (a : ℕ). min (length piece) (length before - a)) at-is

  fits_length : length (take fits piece) ≡ fits
  fits_length = length-take-le fits piece (omega (arith, fits-is))

  pub fits-prefix : fits ≡ length (take fits piece)
  fits-prefix = sym fits_length

  pub fits_room : at + length (take fits piece) ≤ length before
  fits_room = omega (arith, at-is, fits-is, fits_length)

  module _ (after : List ℕ) (end : ℕ) (wrote : Wrote before at (take fits piece) after end) where
    pub holds_buffer : after ≡ buffer_after before held piece
    unfolding buffer_after
    holds_buffer = wrote.is ∙ ap₂ (λ (a f : ℕ). written before a (take f piece)) at-is fits_taken

    pub holds-held : (hex odd : Bool) → hex ≡ held.hex && all_hex (take (length piece - fits) (drop fits piece)) → odd ≡ odd_with held.odd (length piece - fits)
        → record { length = end; hex = hex; odd = odd } ≡ held_after before held piece
    unfolding held_after
    holds-held hex odd hex-is odd_is =
        let size : end ≡ kept_length before held + taken before held piece = omega (arith, wrote.ends, at-is, fits_taken, fits_length) in
        let digits : hex ≡ held.hex && all_hex (drop (taken before held piece) piece) =
        hex-is ∙ ap (λ (v : List ℕ). held.hex && all_hex v) (take_all (length piece - fits) (drop fits piece) (omega (arith, length-drop fits piece)) ∙ ap (λ (n : ℕ). drop n piece) fits_taken) in
        let rest : odd ≡ odd_with held.odd (length piece - taken before held piece) =
        odd_is ∙ ap (λ (n : ℕ). odd_with held.odd (length piece - n)) fits_taken in
        rw (size, digits, rest)

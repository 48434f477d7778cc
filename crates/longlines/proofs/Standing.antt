-- What a buffer keeps of a line stands for the line. Assumes nothing.
--
--   stands_within, stands_inside, stands_prefix   as much of the buffer as stands for the line is
--                            within what is kept of it, and within the buffer
--   seen-is                  what `look` does is what the definition says
--   meaning_on               what is made of a meaning is made of the meaning of what is held
--   by_bytes, by_stray       the meaning of what is held, by what `look` answered
--   held_means               what is kept has the meaning of the line
use mathlib.Core.Path.{◌≡◌, refl, sym, ap, ap₂, ◌∙◌, subst}
use mathlib.Core.Bool.{Bool, true, false, cond, ◌&&◌, and_comm}
use mathlib.Core.List.{List}
use Prim.Native.Nat.{ℕ, ◌+◌, ◌-◌, ◌%◌, ◌≤◌, ◌<◌, min}
use native.Mathlib.Omega.{arith}
use borrow.Author.Tests.{eqb-true, eqb-false, ltb-true, ltb-false}
use lib.Dec.{ltb}
use lib.ListN.{length, take, drop, length-drop, take-append-drop}
use lib.Seq.{take_all, take-length, take-take, take-add, drop_at, drop-drop, length-take-le}
use Rattle.base.proofs.Tests.{by_test}
use Rattle.fields.specs.Bytes.{all_hex}
use Rattle.fields.proofs.Pairs.{hex_append}
use Rattle.longlines.specs.declared.Held.{Held}
use Rattle.longlines.specs.declared.Seen.{Seen}
use Rattle.longlines.specs.Holding.{kept_length, standing, seen_of, meaning_by, held_meaning}
use Rattle.longlines.specs.Claims.{Keeps, TellsWithin}
use Rattle.longlines.proofs.Kept.{nothing_left}

less_within : (odd : Bool) (len : ℕ) → standing odd len ≤ len
less_within true len = omega arith
less_within false len = omega arith

pub stands_within : (odd : Bool) (len n : ℕ) → n ≡ standing odd len → n ≤ len
stands_within odd len n e = subst (λ (x : ℕ). x ≤ len) (sym e) (less_within odd len)

module _ (buffer : List ℕ) (odd : Bool) (len n size : ℕ) (e : n ≡ standing odd len) (is : len ≡ min size (length buffer)) where
  pub stands_inside : n ≤ length buffer
  stands_inside = omega (arith, stands_within odd len n e, is)

  pub stands_prefix : n ≡ length (take n buffer)
  stands_prefix = sym (length-take-le n buffer stands_inside)

-- ---- what stands for the line, with any buffer and any value
pub seen-is : (buffer : List ℕ) (held : Held) (len n : ℕ) → len ≡ kept_length buffer held → n ≡ standing held.odd len
    → (hex : Bool) → hex ≡ held.hex && all_hex (take (len - n) (drop n buffer)) → record { length = n; hex = hex } ≡ seen_of buffer held
unfolding seen_of
seen-is buffer held len n len_is n-is hex hex-is = rw (hex-is, n-is, len_is)

-- ---- the meaning of what is held
cond_on : {A B : Type 0} (g : A → B) (b : Bool) (x y : A) → g (cond b x y) ≡ cond b (g x) (g y)
cond_on g true x y = refl
cond_on g false x y = refl

pub meaning_on : {A B : Type 0} (g : A → B) (f : List ℕ → A) (bad : A) (buffer : List ℕ) (h : Held)
    → g (held_meaning f bad buffer h) ≡ held_meaning (λ w. g (f w)) (g bad) buffer h
meaning_on g f bad buffer h = cond_on g (seen_of buffer h).hex (f (take (seen_of buffer h).length buffer)) bad

module _ {A : Type 0} (f : List ℕ → A) (bad : A) (buffer : List ℕ) (held : Held) (seen : Seen) (is : seen ≡ seen_of buffer held) where
  by_hex : (b : Bool) → seen.hex ≡ b → meaning_by f bad buffer seen.length b ≡ held_meaning f bad buffer held
  by_hex b e =
      ap (meaning_by f bad buffer seen.length) (sym e)
      ∙ ap (λ (s : Seen). meaning_by f bad buffer s.length s.hex) is

  pub by_bytes : seen.hex ≡ true → f (take seen.length buffer) ≡ held_meaning f bad buffer held
  by_bytes e = by_hex true e

  pub by_stray : seen.hex ≡ false → bad ≡ held_meaning f bad buffer held
  by_stray e = by_hex false e

-- from n up to n + k, within the first n + k
part : (w : List ℕ) (n k : ℕ) → n ≤ length w → take k (drop n (take (n + k) w)) ≡ take k (drop n w)
part w n k h =
    ap (λ (v : List ℕ). take k (drop n v)) (take-add n k w)
    ∙ ap (take k) (drop_at (take n w) (take k (drop n w)) n (length-take-le n w h))
    ∙ take-take k k (drop n w) (omega arith)

-- the line w is kept, and n of the bytes that are kept stand for it
module _ (room : ℕ) (buffer : List ℕ) (held : Held) (w : List ℕ) (kept : Keeps buffer held w) (big : room + 1 ≤ length buffer) (len n : ℕ)
    (len_is : len ≡ kept_length buffer held) (n-is : n ≡ standing held.odd len)
    (hex : Bool) (hex-is : hex ≡ held.hex && all_hex (take (len - n) (drop n buffer))) where
  -- the buffer has all of the line
  module _ (whole : length w ≤ length buffer) where
    not_odd : held.odd ≡ false
    not_odd = kept.odd ∙ sym (nothing_left w (length buffer) whole).1

    n_whole : n ≡ held.length
    n_whole = n-is ∙ ap (λ (b : Bool). standing b len) not_odd ∙ omega (arith, len_is, kept.size)

    whole_is : take n buffer ≡ w
    whole_is = ap (λ (k : ℕ). take k buffer) n_whole ∙ kept.head ∙ take_all (length buffer) w whole

    whole_hex : hex ≡ true
    unfolding all_hex
    whole_hex =
        let none : len - n ≡ 0 = omega (arith, n_whole, len_is, kept.size) in
        hex-is ∙ ap₂ (λ (b : Bool) (k : ℕ). b && all_hex (take k (drop n buffer))) (kept.hex ∙ sym (nothing_left w (length buffer) whole).0) none

  -- the line is longer
  module _ (more : length buffer < length w) where
    full : held.length ≡ length buffer
    full = omega (arith, kept.size, more)

    buffer_is : buffer ≡ take (length buffer) w
    buffer_is = sym (take-length buffer) ∙ ap (λ (k : ℕ). take k buffer) (sym full) ∙ kept.head

    least : n ≤ length buffer
    least = omega (arith, stands_within held.odd len n n-is, len_is)

    n_long : room ≤ n
    n_long =
        by_test held.odd
        (λ o. let e : n ≡ len - 1 = n-is ∙ ap (λ (b : Bool). standing b len) o in omega (arith, e, len_is, full, big))
        (λ o. let e : n ≡ len = n-is ∙ ap (λ (b : Bool). standing b len) o in omega (arith, e, len_is, full, big))

    even : (length w - n) % 2 ≡ 0
    even =
        let rest = length-drop (length buffer) w in
        by_test held.odd
        (λ o.
        let e : n ≡ len - 1 = n-is ∙ ap (λ (b : Bool). standing b len) o in
        let z = eqb-true (length (drop (length buffer) w) % 2) 1 (sym kept.odd ∙ o) in
        omega (arith, e, len_is, full, big, more, rest, z))
        (λ o.
        let e : n ≡ len = n-is ∙ ap (λ (b : Bool). standing b len) o in
        let z = eqb-false (length (drop (length buffer) w) % 2) 1 (sym kept.odd ∙ o) in
        omega (arith, e, len_is, full, more, rest, z))

    head_is : take n buffer ≡ take n w
    head_is = ap (take n) buffer_is ∙ take-take n (length buffer) w least

    tail_hex : all_hex (drop n w) ≡ hex
    tail_hex =
        let k = len - n in
        let sum : n + k ≡ length buffer = omega (arith, full, len_is, least) in
        let mid : take k (drop n buffer) ≡ take k (drop n w) =
        ap (λ (v : List ℕ). take k (drop n v)) (buffer_is ∙ ap (λ (x : ℕ). take x w) (sym sum)) ∙ part w n k (omega (arith, least, more)) in
        let back : drop k (drop n w) ≡ drop (length buffer) w = drop-drop k n w ∙ ap (λ (x : ℕ). drop x w) sum in
        ap all_hex (sym (take-append-drop k (drop n w)))
        ∙ hex_append (take k (drop n w)) (drop k (drop n w))
        ∙ and_comm (all_hex (take k (drop n w))) (all_hex (drop k (drop n w)))
        ∙ ap₂ (λ (a b : Bool). a && b) (ap all_hex back ∙ sym kept.hex) (ap all_hex (sym mid))
        ∙ sym hex-is

    first_long : room ≤ length (take n w)
    first_long = omega (arith, n_long, length-take-le n w (omega (arith, least, more)))

    rest_even : length (drop n w) % 2 ≡ 0
    rest_even = ap (λ (k : ℕ). k % 2) (length-drop n w) ∙ even

  module _ {A : Type 0} (f : List ℕ → A) (bad : A) (tells : TellsWithin room f bad) where
    means_long : length buffer < length w → (b : Bool) → hex ≡ b → meaning_by f bad buffer n b ≡ f w
    means_long more true e =
        ap f (head_is more)
        ∙ tells.hex (take n w) (drop n w) (first_long more) (tail_hex more ∙ e) (rest_even more)
        ∙ ap f (take-append-drop n w)
    means_long more false e =
        sym (ap f (sym (take-append-drop n w)) ∙ tells.stray (take n w) (drop n w) (first_long more) (tail_hex more ∙ e))

    means_is : meaning_by f bad buffer n hex ≡ f w
    means_is =
        by_test (ltb (length buffer) (length w))
        (λ t. means_long (ltb-true (length buffer) (length w) t) hex refl)
        (λ t.
        let whole = ltb-false (length buffer) (length w) t in
        ap (meaning_by f bad buffer n) (whole_hex whole) ∙ ap f (whole_is whole))

pub held_means : {A : Type 0} (room : ℕ) (f : List ℕ → A) (bad : A) → TellsWithin room f bad
    → (buffer : List ℕ) (held : Held) (w : List ℕ) → room + 1 ≤ length buffer → Keeps buffer held w → held_meaning f bad buffer held ≡ f w
unfolding seen_of
held_means room f bad tells buffer held w big kept =
    means_is room buffer held w kept big (kept_length buffer held) (standing held.odd (kept_length buffer held)) refl refl _ refl f bad tells

-- What a field says, digit by digit. Assumes nothing.
--
--   said_from v w  what the digits w say after digits of the value v
--   said-…         at the end, by a digit, by another byte, and past 64 bits
use mathlib.Core.Path.{◌≡◌}
use mathlib.Core.Bool.{cond, ◌&&◌, and-false}
use mathlib.Core.List.{List, [], ◌∷◌}
use mathlib.Core.Option.{Option, none, some}
use Prim.Native.Nat.{ℕ, ◌+◌, ◌*◌, ◌-◌, ◌≤◌, ◌<◌}
use native.Mathlib.Numerals.{add-one}
use native.Mathlib.Omega.{arith}
use native.Mathlib.Nat.{le_trans}
use borrow.Author.Tests.{le-leb, lt-leb}
use lib.Dec.{leb}
use lib.ListN.{length, get_or, drop, drop_of_length-le}
use lib.Seq.{drop-cons}
use Rattle.fields.specs.Numbers.{all_digits, value_from, parse_number}

unfoldable pub said_from : ℕ → List ℕ → Option ℕ
said_from v w = cond (all_digits w && leb (value_from v w) 18446744073709551615) (some (value_from v w)) none

grows : (w : List ℕ) (v : ℕ) → v ≤ value_from v w
unfolding value_from
grows [] v = omega arith
grows (c ∷ w) v = le_trans (omega arith) (grows w (10 * v + (c - 48)))

pub said_over : (v : ℕ) (w : List ℕ) → 18446744073709551615 < v → said_from v w ≡ none
unfolding said_from
said_over v w h =
    let g = grows w v in
    rw (lt-leb (value_from v w) 18446744073709551615 (omega (arith, g)), and-false (all_digits w))

pub said_short : (w : List ℕ) → length w ≡ 0 → parse_number w ≡ none
said_short w e = rw e

pub said_long : (w : List ℕ) → 20 < length w → parse_number w ≡ none
said_long w h = rw (le-leb 1 (length w) (omega arith), lt-leb (length w) 20 h)

pub said_whole : (w : List ℕ) → 1 ≤ length w → length w ≤ 20 → parse_number w ≡ said_from 0 w
unfolding said_from
said_whole w l m = rw (le-leb 1 (length w) l, le-leb (length w) 20 m)

module _ (w : List ℕ) (v i : ℕ) where
  pub said_end : length w ≤ i → v ≤ 18446744073709551615 → said_from v (drop i w) ≡ some v
  unfolding said_from all_digits value_from
  said_end h b = rw (drop_of_length-le w h, le-leb v 18446744073709551615 b)

  module _ (here : i < length w) where
    pub said_low : get_or w i 0 < 48 → said_from v (drop i w) ≡ none
    unfolding said_from all_digits
    said_low h = rw (drop-cons w i 0 here, lt-leb 48 (get_or w i 0) h)

    pub said_high : 57 < get_or w i 0 → said_from v (drop i w) ≡ none
    unfolding said_from all_digits
    said_high h = rw (drop-cons w i 0 here, le-leb 48 (get_or w i 0) (omega arith), lt-leb (get_or w i 0) 57 h)

    pub said_digit : 48 ≤ get_or w i 0 → get_or w i 0 ≤ 57 → said_from v (drop i w) ≡ said_from (10 * v + (get_or w i 0 - 48)) (drop (i + 1) w)
    unfolding said_from all_digits value_from
    said_digit l h = rw (add-one, drop-cons w i 0 here, le-leb 48 (get_or w i 0) l, le-leb (get_or w i 0) 57 h)

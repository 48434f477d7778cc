-- How long a label is at most. A number that is drawn is below 100. Assumes nothing.
--
--   both            two parts have the room of both
--   one_of          one of two parts has the room of either
--   number_most     2
--   piece_most      3
--   label_most      48
use mathlib.Core.Bool.{Bool, true, false, cond}
use mathlib.Core.List.{List, [], ◌++◌}
use Prim.Native.Nat.{ℕ, ◌+◌, ◌≤◌, ◌<◌}
use native.Mathlib.Omega.{arith}
use lib.ListN.{length, length-append}
use Rattle.base.specs.Conditions.{any_below}
use Rattle.base.proofs.Lists.{joined_length}
use Rattle.text.specs.Numerals.{decimal}
use Rattle.text.proofs.Digits.{decimal_most}
use Rattle.dotlabels.specs.Labels.{comma, dash, earlier, first_piece, last_piece, piece, label}

pub both : (x y : ℕ) (p q : List ℕ) → length p ≤ x → length q ≤ y → length (p ++ q) ≤ x + y
both x y p q h l = omega (arith, length-append p q)

-- one of two parts, by a test
pub one_of : (most : ℕ) (b : Bool) (p q : List ℕ) → length p ≤ most → length q ≤ most
    → length (cond b p q) ≤ most
one_of most true p q h l = h
one_of most false p q h l = l

pub number_most : (n : ℕ) → n < 100 → length (decimal n) ≤ 2
number_most n h = decimal_most 1 n h

module _ (p : ℕ → Bool) where
  piece_most : (s : ℕ) → s < 100 → length (piece p s) ≤ 3
  unfolding piece
  piece_most s h =
      let n = number_most s h in
      one_of 3 (p s)
      (cond (earlier p 1 s) (cond (p (s + 1)) [] (last_piece (earlier p 2 s) s)) (first_piece (any_below p s) s))
      []
      (one_of 3 (earlier p 1 s) (cond (p (s + 1)) [] (last_piece (earlier p 2 s) s)) (first_piece (any_below p s) s)
      (one_of 3 (p (s + 1)) [] (last_piece (earlier p 2 s) s) (omega arith)
      (both 1 2 (cond (earlier p 2 s) dash comma) (decimal s) (one_of 1 (earlier p 2 s) dash comma (omega arith) (omega arith)) n))
      (both 1 2 (cond (any_below p s) comma []) (decimal s) (one_of 1 (any_below p s) comma [] (omega arith) (omega arith)) n))
      (omega arith)

  pub label_most : (k : ℕ) → k ≤ 16 → length (label p k) ≤ 48
  label_most k h = omega (arith, joined_length (piece p) k 3 (λ s l. piece_most s (omega arith)))

-- How long numbers and lines are at most. Assumes nothing.
--
--   byte_most, half_most   3 digits for a byte, 5 for a number of 16 bits
--   decimal_short   20 for any number, since no more are written
--   line_short      so 21 bytes for each number of a line
--   refused_short, refused_most   29 for a refusal with any number, 12 where it is a byte
use mathlib.Core.List.{List, [], ◌∷◌}
use Prim.Native.Nat.{ℕ, zero, suc, ◌+◌, ◌*◌, ◌/◌, ◌≤◌, ◌<◌}
use native.Mathlib.Omega.{arith}
use lib.Dec.{ltb}
use lib.ListN.{length, length-append}
use Rattle.base.proofs.Tests.{by_test}
use Rattle.text.specs.Numerals.{decimal_below, decimal}
use Rattle.text.proofs.Digits.{decimal_most}
use Rattle.answers.specs.Answers.{behind, line_of, refused_text}

pub byte_most : (n : ℕ) → n < 256 → length (decimal n) ≤ 3
byte_most n h = decimal_most 2 n (omega arith)

pub half_most : (n : ℕ) → n < 65536 → length (decimal n) ≤ 5
half_most n h = decimal_most 4 n (omega arith)

below_most : (places n : ℕ) → length (decimal_below places n) ≤ places
unfolding decimal_below
below_most zero n = omega arith
below_most (suc places) n =
    let h = below_most places (n / 10) in
    by_test (ltb n 10) (λ e. rw e (omega arith)) (λ e. rw (e, length-append) (omega arith))

pub decimal_short : (n : ℕ) → length (decimal n) ≤ 20
decimal_short n = below_most 20 n

behind_short : (ns : List ℕ) → length (behind ns) ≤ 21 * length ns + 1
behind_short [] = omega arith
behind_short (n ∷ ns) = omega (arith, length-append (decimal n) (behind ns), decimal_short n, behind_short ns)

pub line_short : (word ns : List ℕ) → length (line_of word ns) ≤ length word + 21 * length ns + 1
line_short word ns = omega (arith, length-append word (behind ns), behind_short ns)

pub refused_short : (x : ℕ) → length (refused_text x) ≤ 29
refused_short x = omega (arith, decimal_short x, length-append (decimal x) (10 ∷ []))

pub refused_most : (x : ℕ) → x < 256 → length (refused_text x) ≤ 12
refused_most x h = omega (arith, byte_most x h, length-append (decimal x) (10 ∷ []))

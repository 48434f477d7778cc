-- How long the parts of an answer are at most, and where a cell stands. Assumes nothing.
use mathlib.Core.List.{List}
use Prim.Native.Nat.{ℕ, ◌+◌, ◌*◌, ◌/◌, ◌%◌, ◌≤◌, ◌<◌}
use native.Mathlib.Nat.{div-lt_iff_lt-mul, mod-lt, mul-le-mul_right}
use native.Mathlib.Omega.{arith}
use lib.Dec.{eqb, ltb}
use lib.ListN.{length, get_or}
use borrow.Author.Tests.{ltb-true}
use Rattle.base.proofs.Lists.{joined_length}
use Rattle.base.proofs.Tests.{by_test}
use Rattle.ruletext.proofs.Lengths.{number_most, cell_most}
use Rattle.tabletext.specs.Answers.{bare_cell, cell_text, cells_text}

pub bare_most : (to : ℕ) → length (bare_cell to) ≤ 4
bare_most to =
    by_test (ltb to 512)
    (λ e. rw e (omega (arith, number_most to (omega (arith, ltb-true to 512 e)))))
    (λ e. rw e (omega arith))

pub text_most : (c to : ℕ) → length (cell_text c to) ≤ 4
text_most c to = by_test (eqb c 0) (λ e. rw e (bare_most to)) (λ e. rw e (cell_most to))

pub cells_most : (next : List ℕ) (k n : ℕ) → length (cells_text next k n) ≤ n * 4
cells_most next k n = joined_length (λ c. cell_text c (get_or next (c / k * 16 + c % k) 0)) n 4 (λ c h. text_most c (get_or next (c / k * 16 + c % k) 0))

-- the cell of a table of at most 512 sets
pub row_lt : (c k n : ℕ) → 1 ≤ k → c < n → n ≤ 512 * k → c / k < 512
row_lt c k n h l m = let less : c < 512 * k = omega arith in (div-lt_iff_lt-mul h).1 less

pub column_lt : (c k : ℕ) → 1 ≤ k → c % k < k
column_lt c k h = mod-lt c h

pub few_cells : (n k : ℕ) → n ≤ 512 → n * k ≤ 512 * k
few_cells n k h = mul-le-mul_right k h

-- How long the parts of the text are at most, and how many cells the sets keep. Assumes nothing.
--
--   bits_most, first_most   16 cells for each set
--   number_most             5 digits
--   cells_most              64
use mathlib.Core.List.{List}
use Prim.Native.Nat.{ℕ, ◌+◌, ◌*◌, ◌≤◌, ◌<◌}
use native.Mathlib.Omega.{arith}
use lib.ListN.{length, get_or}
use Rattle.base.proofs.Lists.{joined_length}
use Rattle.base.proofs.Totals.{total_most}
use Rattle.masks.specs.Masks.{has}
use Rattle.text.specs.Numerals.{decimal}
use Rattle.text.proofs.Digits.{decimal_most}
use Rattle.ruletext.specs.RuleText.{cell_text}
use Rattle.ruletext.proofs.Lengths.{cell_most}
use Rattle.forms.proofs.Picking.{many_le}
use Rattle.formtext.specs.FormText.{bits_in, first_cell, cells_text}

pub bits_most : (m : ℕ) → bits_in m ≤ 16
bits_most m = many_le (has m) 16

pub first_most : (kept : List ℕ) (t : ℕ) → first_cell kept t ≤ t * 16
first_most kept t = total_most (λ u. bits_in (get_or kept u 0)) 16 t (λ u h. bits_most (get_or kept u 0))

pub number_most : (n : ℕ) → n < 65536 → length (decimal n) ≤ 5
number_most n h = decimal_most 4 n (omega arith)

pub cells_most : (cells : List ℕ) (first n : ℕ) → length (cells_text cells first n) ≤ n * 4
cells_most cells first n = joined_length (λ i. cell_text (get_or cells (first + i) 0)) n 4 (λ i h. cell_most (get_or cells (first + i) 0))

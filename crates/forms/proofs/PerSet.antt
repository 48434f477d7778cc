-- A list that has a number for each of n sets (`for_set`). Assumes nothing.
--
--   of_set      the number of a set
--   of_no_set   0 stands for what is no set, and behind the end of the list
use mathlib.Core.Path.{◌≡◌, ◌∙◌}
use Prim.Native.Nat.{ℕ, ◌≤◌, ◌<◌}
use native.Mathlib.Omega.{arith}
use lib.Dec.{ltb}
use lib.ListN.{get_or, get_or-eq_default}
use borrow.Author.Tests.{lt-ltb, le-ltb, ltb-true, ltb-false}
use Rattle.base.specs.Lists.{list_from}
use Rattle.base.proofs.Lists.{cell_of_lem, length_list_from}
use Rattle.base.proofs.Tests.{by_test}
use Rattle.limits.specs.Limits.{most_sets}
use Rattle.forms.specs.Form.{for_set}

module _ (n : ℕ) (g : ℕ → ℕ) where
  pub of_set : n ≤ most_sets → (t : ℕ) → t < n → get_or (list_from 0 most_sets (for_set n g)) t 0 ≡ g t
  of_set few t h = cell_of_lem most_sets (for_set n g) t 0 (omega arith) ∙ rw (lt-ltb t n h)

  pub of_no_set : (t : ℕ) → n ≤ t → get_or (list_from 0 most_sets (for_set n g)) t 0 ≡ 0
  of_no_set t h =
      by_test (ltb t most_sets)
      (λ e. cell_of_lem most_sets (for_set n g) t 0 (ltb-true t most_sets e) ∙ rw (le-ltb t n h))
      (λ e. get_or-eq_default (list_from 0 most_sets (for_set n g)) 0
      (omega (arith, ltb-false t most_sets e, length_list_from 0 most_sets (for_set n g))))

-- A text that is copied to the front of an array of zeros. Assumes nothing.
use mathlib.Core.Path.{◌≡◌, sym, ap, ◌∙◌}
use mathlib.Core.List.{List, ◌++◌}
use Prim.Native.Nat.{ℕ, ◌+◌, ◌-◌, ◌≤◌}
use native.Mathlib.Omega.{arith}
use lib.Dec.{ltb}
use lib.ListN.{length, get_or, drop, replicate, length-append, length-drop, get_or-append, get_or-eq_default}
use lib.Seq.{get_or-append_right, get_or-drop}
use borrow.Author.Tests.{ltb-true, ltb-false}
use Rattle.base.proofs.Lists.{is_list_from, zero_cells}
use Rattle.base.proofs.Tests.{by_test}
use Rattle.searches.specs.Texts.{text_cells}

module _ (word : List ℕ) (short : length word ≤ 511) where
  -- the zeros that are left behind the text
  zeros : List ℕ
  zeros = drop (length word) (replicate 511 0)

  long : length (word ++ zeros) ≡ 511
  unfolding zeros
  long =
      let sum : length word + (511 - length word) ≡ 511 = omega arith in
      length-append word zeros ∙ ap (λ (x : ℕ). length word + x) (length-drop (length word) (replicate 511 0)) ∙ sum

  zero : (c : ℕ) → length word ≤ c → get_or (word ++ zeros) c 0 ≡ get_or word c 0
  unfolding zeros
  zero c h =
      get_or-append_right word zeros c 0 h
      ∙ get_or-drop (length word) (replicate 511 0) (c - length word) 0
      ∙ zero_cells 511 (length word + (c - length word))
      ∙ sym (get_or-eq_default word 0 {n = c} h)

  pub copied : word ++ drop (length word) (replicate 511 0) ≡ text_cells word
  unfolding zeros
  copied =
      is_list_from (word ++ zeros) 511 (λ c. get_or word c 0) long
      (λ c _.
      by_test (ltb c (length word))
      (λ t. get_or-append word zeros 0 c (ltb-true c (length word) t))
      (λ t. zero c (ltb-false c (length word) t)))

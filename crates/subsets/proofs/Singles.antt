-- The laws of a singleton's number: what the search found is it; and where {q} is among the sets,
-- its number names it. Assumes nothing.
use mathlib.Core.Path.{◌≡◌, sym, ◌∙◌}
use mathlib.Core.List.{List}
use mathlib.Core.Option.{none, some}
use Prim.Native.Nat.{ℕ, ◌<◌, min}
use native.Mathlib.Omega.{arith}
use borrow.Author.Tests.{lt-ltb, ltb-true}
use lib.Dec.{ltb}
use lib.ListN.{length, get_or, take, length-take}
use lib.Seq.{get_or-take}
use Rattle.base.proofs.Tests.{by_test}
use Rattle.masks.specs.Masks.{single}
use Rattle.subsets.specs.Sets.{index_of}
use Rattle.numbering.specs.mirror.Arrays.{found_in}
use Rattle.subsets.specs.mirror.Singles.{singleton_number}
use Rattle.numbering.proofs.Numbers.{Has, number_le, number_at, stands}
use Rattle.numbering.proofs.Arrays.{found_has, found_not}

module _ (sets : List ℕ) (count q : ℕ) where
  abbrev among : List ℕ
  among = take count sets

  has_number : Has among (single q) → singleton_number sets count q ≡ index_of among (single q)
  unfolding singleton_number
  has_number h =
      let l : index_of among (single q) < count = omega (arith, length-take count sets) in
      rw (lt-ltb (index_of among (single q)) count l)

  pub single_found : (j : ℕ) → found_in among (single q) ≡ some j → j ≡ singleton_number sets count q
  single_found j e = let h = found_has among (single q) j e in h.1 ∙ sym (has_number h.0)

  -- a count above 512 is taken for 512: past the end of the array is no set either
  pub single_missing : length sets ≡ 512 → found_in among (single q) ≡ none → 512 ≡ singleton_number sets count q
  unfolding singleton_number
  single_missing long e =
      let i : ℕ = index_of among (single q) in
      let all : i ≡ min count 512 = omega (arith, found_not among (single q) e, number_le among (single q), length-take count sets) in
      by_test (ltb i count)
      (λ t. rw t (let l = ltb-true i count t in omega arith))
      (λ t. rw t)

  pub single_named : (i : ℕ) → i < length among → get_or sets i 0 ≡ single q
      → (singleton_number sets count q < length among) × (get_or sets (singleton_number sets count q) 0 ≡ single q)
  single_named i h e =
      let below : i < count = omega (arith, length-take count sets) in
      let has : Has among (single q) = stands among (single q) i h (get_or-take count sets i 0 below ∙ e) in
      let number : ℕ = index_of among (single q) in
      let l : number < count = omega (arith, length-take count sets) in
      rw (has_number has) (has, sym (get_or-take count sets number 0 l) ∙ number_at among (single q) has)

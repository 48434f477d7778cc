-- `starts_of` by what it is: its cells (`MergedSets`), and that `lowest_of` is the lowest state with
-- a set alike to a state's own. Assumes nothing.
use mathlib.Core.Path.{◌≡◌, refl, ◌∙◌}
use mathlib.Core.Bool.{Bool, true, cond}
use mathlib.Core.List.{List}
use Prim.Native.Nat.{ℕ, ◌≤◌, ◌<◌, min}
use native.Mathlib.Omega.{arith}
use borrow.Author.Tests.{lt-ltb, le-ltb, ltb-true, ltb-false}
use lib.Dec.{ltb}
use lib.ListN.{length, get_or, get_or-eq_default}
use Rattle.base.specs.Lists.{list_from}
use Rattle.base.proofs.Lists.{length_list_from, cell_of_lem}
use Rattle.base.proofs.Tests.{by_test}
use Rattle.delegates.specs.declared.Starts.{Starts}
use Rattle.delegates.specs.Alike.{start_count}
use Rattle.delegates.specs.mirror.Classes.{AlikeSets, first_from, alike_to, single_at, lowest_of, delegate_of, starts_of}
use Rattle.delegates.proofs.Tests.{Least, found, least_by}
use Rattle.delegates.proofs.Classes.{near_alike, alike_near}

-- states with alike sets
abbrev pub Kin : List ℕ → List ℕ → ℕ → List ℕ → ℕ → ℕ → ℕ → Type 0
Kin sets next finals singles k p u = AlikeSets sets next finals k (single_at singles p) (single_at singles u)

module _ (sets next : List ℕ) (finals : ℕ) (singles : List ℕ) (n k : ℕ) where
  pub record MergedSets (r : Starts) : Type 0 where
    pub cells : length r.delegates ≡ 32
    pub delegates : (q : ℕ) → q < min n 32 → get_or r.delegates q 0 ≡ delegate_of sets next finals singles (min k 16) q
    pub zeros : (q : ℕ) → min n 32 ≤ q → get_or r.delegates q 0 ≡ 0
    pub starts : r.startcount ≡ start_count r.delegates (min n 32)

  pub lowest : (q : ℕ) → Least (Kin sets next finals singles (min k 16)) 0 q (lowest_of sets next finals singles (min k 16) q)
  unfolding lowest_of
  lowest q =
      let test : ℕ → Bool = λ p. alike_to sets next finals (min k 16) 513 (single_at singles p) (single_at singles q) in
      least_by (λ p _. test p ≡ true) (Kin sets next finals singles (min k 16)) 0 q (first_from test 0 q)
      (λ p l. near_alike sets next finals (min k 16) (single_at singles p) (single_at singles q) (omega arith) (omega arith))
      (found test 0 q q (omega arith) (alike_near sets next finals (min k 16) 513 (single_at singles q) (single_at singles q) (λ w x. refl)))

  -- what stands at cell q
  abbrev pub cell : ℕ → ℕ
  cell q = cond (ltb q (min n 32)) (delegate_of sets next finals singles (min k 16) q) 0

  pub starts_meet : MergedSets (starts_of sets next finals singles n k)
  unfolding starts_of
  starts_meet = record {
    cells = length_list_from 0 32 cell;
    delegates = λ q h. cell_of_lem 32 cell q 0 (omega arith) ∙ rw (lt-ltb q (min n 32) h);
    zeros = λ q h.
        by_test (ltb q 32)
        (λ t. cell_of_lem 32 cell q 0 (ltb-true q 32 t) ∙ rw (le-ltb q (min n 32) h))
        (λ t. get_or-eq_default (list_from 0 32 cell) 0 (omega (arith, length_list_from 0 32 cell, ltb-false q 32 t)));
    starts = refl;
  }

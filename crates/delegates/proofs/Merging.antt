-- The loop that merges starts: its invariant, `Merging`, that a turn keeps it, and what it comes
-- to. The states below q have the class of their set in `own` and their delegate in `delegates`,
-- which has zeros from q on, and `starts` counts those that are their own delegate. States with
-- sets of one class are those that no text tells apart, so the first state of a class is the
-- delegate; and a state in the class of the empty set has none. Assumes nothing.
use mathlib.Core.Path.{◌≡◌, refl, sym, ap₂, ◌∙◌}
use mathlib.Core.Bool.{Bool, true, false, cond, not}
use mathlib.Core.List.{List}
use Prim.Native.Nat.{ℕ, zero, suc, ◌+◌, ◌≤◌, ◌<◌, min}
use native.Mathlib.Numerals.{add-one}
use native.Mathlib.Omega.{arith}
use borrow.Author.Count.{below_none}
use borrow.Author.Tests.{ltb-true, ltb-false}
use lib.Dec.{eqb, ltb}
use lib.ListN.{length, get_or, set, replicate, length-set}
use lib.Seq.{get_or-set_same, get_or-set_other}
use Rattle.base.specs.Lists.{list_from}
use Rattle.base.proofs.Lists.{is_list_from, zero_cells, stored}
use Rattle.base.proofs.Tests.{by_test, one_most}
use Rattle.delegates.specs.Alike.{start_count}
use Rattle.delegates.specs.mirror.Classes.{alike_to, single_at, live_of, lowest_of, delegate_of, starts_of}
use Rattle.delegates.specs.mirror.Refinement.{class_of, first_in_class, cell_in, classes_of}
use Rattle.delegates.proofs.Tests.{first-same}
use Rattle.delegates.proofs.Classes.{class_test}
use Rattle.delegates.proofs.Merged.{cell}

count_set : (d : List ℕ) (q v m : ℕ) → m ≤ q → start_count (set d q v) m ≡ start_count d m
unfolding start_count
count_set d q v zero h = refl
count_set d q v (suc m) h =
    rw (count_set d q v m (omega arith), get_or-set_other d q m v 0 (λ e. omega arith))

module _ (sets next : List ℕ) (finals : ℕ) (singles : List ℕ) (k : ℕ) where
  -- the class of the set {q}
  abbrev pub class_at : ℕ → ℕ
  class_at q = class_of (classes_of sets next finals k) (single_at singles q)

  -- the class of the empty set
  abbrev pub empty_class : ℕ
  empty_class = class_of (classes_of sets next finals k) 512

  pub record Merging (own delegates : List ℕ) (starts q : ℕ) : Type 0 where
    pub own_cells : length own ≡ 32
    pub own_class : (b : ℕ) → b < q → class_of own b ≡ class_at b
    pub cells : length delegates ≡ 32
    pub lowest : (b : ℕ) → b < q → get_or delegates b 0 ≡ delegate_of sets next finals singles k b
    pub zeros : (b : ℕ) → q ≤ b → get_or delegates b 0 ≡ 0
    pub counted : starts ≡ start_count delegates q
    pub few : starts ≤ q

  pub begun : Merging (replicate 32 0) (replicate 32 0) 0 0
  unfolding start_count
  begun = record {
    own_cells = refl;
    own_class = below_none _;
    cells = refl;
    lowest = below_none _;
    zeros = λ b h. zero_cells 32 b;
    counted = refl;
    few = omega arith;
  }

  -- the lowest state in the class of q
  lowest_in : (own : List ℕ) (q : ℕ) → ((b : ℕ) → b < q + 1 → class_of own b ≡ class_at b)
      → first_in_class own q ≡ lowest_of sets next finals singles k q
  unfolding first_in_class lowest_of
  lowest_in own q same =
      first-same
      (λ p. eqb (class_of own p) (class_of own q))
      (λ p. alike_to sets next finals k 513 (single_at singles p) (single_at singles q))
      0 q
      (λ p l.
      rw (same p (omega arith), same q (omega arith))
      (class_test sets next finals k (single_at singles p) (single_at singles q) (omega arith) (omega arith)))

  -- by the classes it is the delegate, and there is none in the class of the empty set
  delegated : (own : List ℕ) (q : ℕ) → ((b : ℕ) → b < q + 1 → class_of own b ≡ class_at b)
      → cell_in own empty_class q ≡ delegate_of sets next finals singles k q
  unfolding cell_in delegate_of live_of
  delegated own q same =
      rw (same q (omega arith), lowest_in own q same, class_test sets next finals k (single_at singles q) 512 (omega arith) (omega arith))
      (one (alike_to sets next finals k 513 (single_at singles q) 512))
    where
      one : (b : Bool) → cond b 32 (lowest_of sets next finals singles k q) ≡ cond (not b) (lowest_of sets next finals singles k q) 32
      one true = refl
      one false = refl

  module _ (own delegates : List ℕ) (starts q : ℕ) (before : Merging own delegates starts q) (h : q < 32)
      (class d : ℕ) (is : class ≡ class_at q) (found : d ≡ cell_in (set own q class) empty_class q) where
    long : q < length delegates
    long = omega (arith, before.cells)

    counts : start_count (set delegates q d) (q + 1) ≡ starts + cond (eqb d q) 1 0
    unfolding start_count
    counts = rw (add-one, count_set delegates q d q (omega arith), get_or-set_same delegates q d 0 long, before.counted)

    pub turned : (s : ℕ) → s ≡ starts + cond (eqb d q) 1 0 → Merging (set own q class) (set delegates q d) s (q + 1)
    turned s e =
        let one = one_most (eqb d q) in
        let same = stored (λ b y. y ≡ class_at b) own q class (omega (arith, before.own_cells)) before.own_class is in
        record {
          own_cells = simp length-set before.own_cells;
          own_class = same;
          cells = simp length-set before.cells;
          lowest = stored (λ b y. y ≡ delegate_of sets next finals singles k b) delegates q d long before.lowest
              (found ∙ delegated (set own q class) q same);
          zeros = λ b l. get_or-set_other delegates q b d 0 (λ z. omega arith) ∙ before.zeros b (omega arith);
          counted = e ∙ sym counts;
          few = omega (arith, before.few);
        }

-- ---- at the end
module _ (sets next : List ℕ) (finals : ℕ) (singles : List ℕ) (n k : ℕ) where
  pub all_merged : (own delegates : List ℕ) (starts q : ℕ) → q ≡ min n 32 → Merging sets next finals singles (min k 16) own delegates starts q
      → record { delegates = delegates; startcount = starts } ≡ starts_of sets next finals singles n k
  unfolding starts_of
  all_merged own delegates starts q e m =
      let same : delegates ≡ list_from 0 32 (cell sets next finals singles n k) =
      is_list_from delegates 32 (cell sets next finals singles n k) m.cells
      (λ b l.
      by_test (ltb b (min n 32))
      (λ t. let h = ltb-true b (min n 32) t in m.lowest b (omega arith) ∙ rw t)
      (λ t. let h = ltb-false b (min n 32) t in m.zeros b (omega arith) ∙ rw t)) in
      ap₂ (λ (d : List ℕ) (c : ℕ). record { delegates = d; startcount = c }) same
      (m.counted ∙ ap₂ (λ (d : List ℕ) (x : ℕ). start_count d x) same e)

-- Over the table of a built rule a walk from the number of a set ends at the number of the set
-- after the text, or at 512 exactly where that is empty, and it counts a step for each transition
-- that document 01 counts. It reads a cell for each byte until its set is empty. So the runs of a
-- chunk end in the sets, and count the transitions, of the definition. By induction over the text,
-- one cell a symbol. Assumes a well-formed rule with at most 512 sets.
use mathlib.Core.Path.{◌≡◌, refl, sym, ap, ap₂, ◌∙◌, subst}
use mathlib.Core.Bool.{Bool, true, false, cond}
use mathlib.Core.List.{List, [], ◌∷◌}
use Prim.Native.Nat.{ℕ, suc, ◌+◌, ◌%◌, ◌^◌, ◌≤◌, ◌<◌}
use native.Mathlib.Omega.{arith}
use borrow.Author.Tests.{lt-ltb, ltb-false, eqb-true, eqb-false}
use lib.Dec.{eqb, ltb}
use lib.ListN.{length, get_or}
use Rattle.base.specs.Lists.{list_from}
use Rattle.base.proofs.Lists.{same_list}
use Rattle.base.proofs.Tests.{by_test}
use Rattle.base.proofs.Totals.{total_same, greatest_same}
use Rattle.masks.specs.Masks.{has, single}
use Rattle.masks.proofs.Laws.{member_of, members_below, below_of}
use Rattle.automaton.specs.declared.Rule.{Rule}
use Rattle.automaton.specs.Rules.{WellFormed}
use Rattle.automaton.specs.Successor.{successor, after}
use Rattle.automaton.proofs.Laws.{after_empty}
use Rattle.subsets.specs.Sets.{too_many, set_cells, next_cells}
use Rattle.subsets.specs.Claims.{sets, fits}
use Rattle.subsets.proofs.Claims as subsets
use Rattle.automaton.specs.Automaton.{Text}
use Rattle.delegates.specs.mirror.Classes.{follow}
use Rattle.delegates.proofs.Acceptance.{mask_at, follow_law}
use Rattle.build.specs.mirror.Building.{built_of}
use Rattle.build.proofs.Claims as build
use Rattle.chunks.specs.Chunks.{counted, end_set, chunk_count, looked}
use Rattle.walks.specs.mirror.Steps.{end_by, count_by, looked_by}
use Rattle.chunks.specs.mirror.Walks.{step_of, walk_end, walk_count, walk_looked, mask_of, runs_of}
use Rattle.chunks.proofs.Walks.{end_empty, count_empty, looked_empty}
use Rattle.chunks.proofs.Counts.{counted_empty}
use Rattle.chunks.proofs.Looked.{looked_none, looked_step, looked_runs}

same_either : (b : Bool) (x y : ℕ) → (b ≡ true → x ≡ y) → cond b x 0 ≡ cond b y 0
same_either true x y h = h refl
same_either false x y h = refl

module _ (r : Rule) (good : WellFormed r) (fit : fits r) where
  abbrev masks : List ℕ
  masks = set_cells r.targets r.n r.k

  abbrev table : List ℕ
  table = next_cells r.targets r.n r.k

  few : length (sets r) ≤ 512
  unfolding too_many
  few = ltb-false 512 (length (sets r)) fit

  some_state : (i : ℕ) → i < length (sets r) → get_or (sets r) i 0 ≡ 0 → ⊥
  some_state i h = ((subsets.claims).sound r good i h).some_state

  -- ---- a walk from the number of a set
  record Walked (m i : ℕ) (w : List ℕ) : Type 0 where
    end : mask_of masks (walk_end table i w) ≡ after r.targets m w
    steps : walk_count table i w ≡ counted r.targets m w
    reads : walk_looked table i w ≡ looked r.targets m w

  from_empty : (w : List ℕ) → Walked 0 512 w
  from_empty w = record {
    end = rw (end_empty table w) (sym (after_empty r.targets w));
    steps = count_empty table w ∙ sym (counted_empty r.targets w);
    reads = looked_empty table w ∙ sym (looked_none r.targets w);
  }

  one_more : (m i j s : ℕ) (w : List ℕ) → (m ≡ 0 → ⊥) → i < 512 → step_of table i s ≡ j
      → ◌≡◌ {A = ℕ} (cond (ltb j 512) 1 0) (cond (eqb (successor r.targets m s) 0) 0 1)
      → Walked (successor r.targets m s) j w → Walked m i (s ∷ w)
  unfolding end_by count_by looked_by counted
  one_more m i j s w some low to one rest = record {
    end = ap (λ (x : ℕ). mask_of masks (walk_end table x w)) to ∙ rest.end;
    steps =
        ap₂ (λ (x : ℕ) (y : ℕ). x + y)
        (ap (λ (x : ℕ). cond (ltb x 512) 1 0) to ∙ one)
        (ap (λ (x : ℕ). walk_count table x w) to ∙ rest.steps);
    reads =
        rw (lt-ltb i 512 low)
        (ap (λ (x : ℕ). suc (walk_looked table x w)) to ∙ ap suc rest.reads ∙ sym (looked_step r.targets m s w some));
  }

  walked : (w : List ℕ) → Text r.k w → (i : ℕ) → i < length (sets r) → Walked (get_or (sets r) i 0) i w
  unfolding end_by count_by looked_by counted looked
  walked [] x i h = record { end = rw (lt-ltb i 512 (omega (arith, few))) (mask_at subsets.claims r good fit i h); steps = refl; reads = refl }
  walked (s ∷ w) x i h =
      let m : ℕ = successor r.targets (get_or (sets r) i 0) s in
      let step = follow_law subsets.claims r good fit i s h x.0 in
      let low : s % 16 ≡ s = omega (arith, x.0, good.symbols) in
      let to : step_of table i s ≡ follow table i s = ap (follow table i) low in
      by_test (eqb m 0)
      (λ t.
      let z = eqb-true m 0 t in
      one_more (get_or (sets r) i 0) i 512 s w (some_state i h) (omega (arith, few)) (to ∙ step.0 z) (rw t) (subst (λ (y : ℕ). Walked y 512 w) (sym z) (from_empty w)))
      (λ t.
      let j = follow table i s in
      let there = step.1 (eqb-false m 0 t) in
      one_more (get_or (sets r) i 0) i j s w (some_state i h) (omega (arith, few)) to
      (rw (lt-ltb j 512 (omega (arith, there.0, few)), t))
      (subst (λ (y : ℕ). Walked y j w) there.1 (walked w x.1 j there.0)))

  -- ---- a run from a state
  abbrev single_at_lem : ℕ → ℕ
  single_at_lem q = get_or (built_of r).singles q 0

  from_state : (q : ℕ) → q < r.n → (w : List ℕ) → Text r.k w → Walked (single q) (single_at_lem q) w
  from_state q h w text =
      let s = (build.claims).singles r good fit q h in
      subst (λ (m : ℕ). Walked m (single_at_lem q) w) (sym (mask_at subsets.claims r good fit (single_at_lem q) s.0) ∙ s.1)
      (walked w text (single_at_lem q) s.0)

  pub run_end : (q : ℕ) → q < r.n → (w : List ℕ) → Text r.k w → mask_of masks (walk_end table (single_at_lem q) w) ≡ after r.targets (single q) w
  run_end q h w text = (from_state q h w text).end

  pub run_count : (q : ℕ) → q < r.n → (w : List ℕ) → Text r.k w → walk_count table (single_at_lem q) w ≡ counted r.targets (single q) w
  run_count q h w text = (from_state q h w text).steps

  pub run_looked : (q : ℕ) → q < r.n → (w : List ℕ) → Text r.k w → walk_looked table (single_at_lem q) w ≡ looked r.targets (single q) w
  run_looked q h w text = (from_state q h w text).reads

-- ---- the runs of a chunk
module _ (r : Rule) (good : WellFormed r) (fit : fits r) (run : ℕ) (below : run < 2 ^ r.n) (w : List ℕ) (text : Text r.k w) where
  abbrev from : ℕ → ℕ
  from q = single_at_lem r good fit q

  state_of_lem : (q : ℕ) → has run q ≡ true → q < r.n
  state_of_lem q t = members_below r.n run q below (member_of run q t)

  pub ends : (runs_of (built_of r).sets (built_of r).next (built_of r).singles run w).ends ≡ list_from 0 32 (end_set r.targets run w)
  ends =
      same_list 32
      (λ q. cond (has run q) (mask_of (masks r good fit) (walk_end (table r good fit) (from q) w)) 0)
      (end_set r.targets run w)
      (λ q h.
      same_either (has run q) (mask_of (masks r good fit) (walk_end (table r good fit) (from q) w)) (after r.targets (single q) w)
      (λ t. run_end r good fit q (state_of_lem q t) w text))

  pub count : (runs_of (built_of r).sets (built_of r).next (built_of r).singles run w).count ≡ chunk_count r.targets run w
  count =
      total_same
      (λ q. cond (has run q) (walk_count (table r good fit) (from q) w) 0)
      (λ q. cond (has run q) (counted r.targets (single q) w) 0)
      32
      (λ q h.
      same_either (has run q) (walk_count (table r good fit) (from q) w) (counted r.targets (single q) w)
      (λ t. run_count r good fit q (state_of_lem q t) w text))

  pub looks : (runs_of (built_of r).sets (built_of r).next (built_of r).singles run w).looked ≡ looked r.targets run w
  looks =
      greatest_same
      (λ q. cond (has run q) (walk_looked (table r good fit) (from q) w) 0)
      (λ q. cond (has run q) (looked r.targets (single q) w) 0)
      32
      (λ q h.
      same_either (has run q) (walk_looked (table r good fit) (from q) w) (looked r.targets (single q) w)
      (λ t. run_looked r good fit q (state_of_lem q t) w text))
      ∙ sym (looked_runs r.targets run w 32 (below_of 32 run (λ q m. omega (arith, members_below r.n run q below m, good.states))))

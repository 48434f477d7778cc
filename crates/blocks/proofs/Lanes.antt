-- Runs that share lanes. Assumes nothing.
--
--   Held                      the first j runs have their lanes
--   held_none, held_old, held_new   none has; the next takes a lane in use, or a new one
--   shared                    all have
--   ends_picked, counts_picked      what the runs take from their lanes is theirs
--   looked_shared             what is looked up for the lanes is what is looked up for the runs
use mathlib.Core.Path.{◌≡◌, refl, ap, ◌∙◌}
use mathlib.Core.Logic.{◌⊎◌, inl, inr, ⊎_elim}
use mathlib.Core.List.{List}
use Prim.Native.Nat.{ℕ, ◌+◌, ◌≤◌, ◌<◌}
use native.Mathlib.Omega.{arith}
use borrow.Author.Count.{below_more}
use borrow.Author.Tests.{ltb-true, ltb-false}
use lib.Dec.{ltb}
use lib.ListN.{length, get_or, set, replicate, length-set, length-replicate, get_or-replicate, get_or-eq_default}
use lib.Seq.{get_or-set_same, get_or-set_other}
use Rattle.base.proofs.Lists.{cell_of_lem, same_list, each_stored}
use Rattle.base.proofs.Tests.{by_test}
use Rattle.base.proofs.Totals.{greatest_most, term_greatest}
use Rattle.walks.proofs.Steps.{looked_empty}
use Rattle.lanes.specs.mirror.Offsets.{hop_of, row_end, row_count, row_looked, rows_end, rows_count, rows_looked, Rows}
use Rattle.lanes.proofs.Rows.{rows_at}
use Rattle.blocks.specs.mirror.Blocks.{pick_of, Shared}

-- a row offset is that of one of the first j runs, or the empty set's
abbrev pub Known : List ℕ → ℕ → ℕ → Type 0
Known rows j r = (r ≡ 8192) ⊎ (i : ℕ) × (i < j) × (r ≡ get_or rows i 0)

pub record Held (rows lane of : List ℕ) (used j : ℕ) : Type 0 where
  pub lanes : length lane ≡ 40
  pub runs : length of ≡ 32
  pub most : used ≤ j + 8
  pub within : (i : ℕ) → i < j → get_or of i 0 < used
  pub same : (i : ℕ) → i < j → get_or lane (get_or of i 0) 0 ≡ get_or rows i 0
  pub some : (k : ℕ) → k < 40 → Known rows j (get_or lane k 0)
  pub rest : (k : ℕ) → used ≤ k → k < 40 → get_or lane k 0 ≡ 8192

pub held_none : (rows of : List ℕ) → length of ≡ 32 → Held rows (replicate 40 8192) of 8 0
held_none rows of size = record {
  lanes = length-replicate {A = ℕ} 40 8192;
  runs = size;
  most = omega arith;
  within = λ i h. absurd (omega arith);
  same = λ i h. absurd (omega arith);
  some = λ k h. inl (get_or-replicate {A = ℕ} 40 k 8192 0 h);
  rest = λ k l h. get_or-replicate {A = ℕ} 40 k 8192 0 h;
}

known_more : (rows : List ℕ) (j r : ℕ) → Known rows j r → Known rows (j + 1) r
known_more rows j r known = ⊎_elim (λ e. inl e) (λ x. inr (x.0, omega (arith, x.1), x.2)) known

module _ (rows lane of : List ℕ) (used j : ℕ) (held : Held rows lane of used j) (h : j < 32) where
  -- the next run takes lane k, which has its row offset
  pub held_old : (k : ℕ) → k < used → get_or lane k 0 ≡ get_or rows j 0 → Held rows lane (set of j k) used (j + 1)
  held_old k l e =
      let other : (i : ℕ) → i < j → get_or (set of j k) i 0 ≡ get_or of i 0 = λ i q. get_or-set_other of j i k 0 (λ z. omega arith) in
      let here : get_or (set of j k) j 0 ≡ k = get_or-set_same of j k 0 (omega (arith, held.runs)) in
      record {
        lanes = held.lanes;
        runs = length-set of j k ∙ held.runs;
        most = omega (arith, held.most);
        within = below_more _ j (λ i q. rw (other i q) (held.within i q)) (rw here l);
        same = below_more _ j (λ i q. rw (other i q) (held.same i q)) (rw here e);
        some = λ q b. known_more rows j (get_or lane q 0) (held.some q b);
        rest = held.rest;
      }

  -- it takes the next lane
  pub held_new : Held rows (set lane used (get_or rows j 0)) (set of j used) (used + 1) (j + 1)
  held_new =
      let row = get_or rows j 0 in
      let fits : used < length lane = omega (arith, held.most, held.lanes) in
      let now : get_or (set lane used row) used 0 ≡ row = get_or-set_same lane used row 0 fits in
      let other : (i : ℕ) → i < j → get_or (set of j used) i 0 ≡ get_or of i 0 = λ i q. get_or-set_other of j i used 0 (λ z. omega arith) in
      let here : get_or (set of j used) j 0 ≡ used = get_or-set_same of j used 0 (omega (arith, held.runs)) in
      record {
        lanes = length-set lane used row ∙ held.lanes;
        runs = length-set of j used ∙ held.runs;
        most = omega (arith, held.most);
        within = below_more _ j (λ i q. rw (other i q) (omega (arith, held.within i q))) (rw here (omega arith));
        same = below_more _ j
            (λ i q. rw (other i q) (get_or-set_other lane used (get_or of i 0) row 0 (λ z. omega (arith, held.within i q)) ∙ held.same i q))
            (rw here now);
        some = each_stored (λ q r. q < 40 → Known rows (j + 1) r) lane used row fits
            (λ q b. known_more rows j (get_or lane q 0) (held.some q b))
            (λ b. inr (j, omega arith, refl));
        rest = λ q a b. get_or-set_other lane used q row 0 (λ z. omega arith) ∙ held.rest q (omega arith) b;
      }

-- ---- all have
module _ (rows lane of : List ℕ) (used j : ℕ) (held : Held rows lane of used j) (all : j ≡ 32) (low : Rows rows) where
  lanes_low : Rows lane
  lanes_low k =
      by_test (ltb k 40)
      (λ b. ⊎_elim (λ e. omega (arith, e)) (λ x. rw x.2 (low x.0)) (held.some k (ltb-true k 40 b)))
      (λ b. let past = ltb-false k 40 b in omega (arith, get_or-eq_default lane 0 {n = k} (omega (arith, held.lanes))))

  pub shared : Shared rows lane of used
  shared = record {
    lanes = record { size = held.lanes; rows = lanes_low; most = omega (arith, held.most); rest = held.rest };
    within = λ i h. omega (arith, held.within i (omega arith), held.most);
    same = λ i h. held.same i (omega arith);
    some = λ k h. ⊎_elim (λ z. inl z) (λ x. inr (x.0, omega (arith, x.1), x.2)) (held.some k h);
  }

-- ---- what the runs have of their lanes
module _ (t w rows lane of : List ℕ) (used : ℕ) (sharing : Shared rows lane of used) where
  pub ends_picked : pick_of of (rows_end t w lane 40) ≡ rows_end t w rows 32
  ends_picked =
      same_list 32 (λ j. get_or (rows_end t w lane 40) (get_or of j 0) 0) (λ j. row_end t w (get_or rows j 0))
      (λ j h. rows_at t w lane 40 (get_or of j 0) (sharing.within j h) ∙ ap (row_end t w) (sharing.same j h))

  pub counts_picked : pick_of of (rows_count t w lane 40) ≡ rows_count t w rows 32
  counts_picked =
      same_list 32 (λ j. get_or (rows_count t w lane 40) (get_or of j 0) 0) (λ j. row_count t w (get_or rows j 0))
      (λ j h. cell_of_lem 40 (λ k. row_count t w (get_or lane k 0)) (get_or of j 0) 0 (sharing.within j h) ∙ ap (row_count t w) (sharing.same j h))

  lanes_most : rows_looked t w lane 40 ≤ rows_looked t w rows 32
  lanes_most =
      greatest_most (λ k. row_looked t w (get_or lane k 0)) (rows_looked t w rows 32) 40
      (λ k h.
      ⊎_elim
      (λ e. rw e (omega (arith, looked_empty (hop_of t) 8192 8192 w (omega arith))))
      (λ x. rw x.2 (term_greatest (λ j. row_looked t w (get_or rows j 0)) 32 x.0 x.1))
      (sharing.some k h))

  runs_most : rows_looked t w rows 32 ≤ rows_looked t w lane 40
  runs_most =
      greatest_most (λ j. row_looked t w (get_or rows j 0)) (rows_looked t w lane 40) 32
      (λ j h. rw (sharing.same j h) at (term_greatest (λ k. row_looked t w (get_or lane k 0)) 40 (get_or of j 0) (sharing.within j h)))

  pub looked_shared : rows_looked t w lane 40 ≡ rows_looked t w rows 32
  looked_shared = omega (arith, lanes_most, runs_most)

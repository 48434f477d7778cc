-- The round trip: a kept cell stands at its rank, a cell that is left out is the failure set's, and
-- so each cell of the table comes back. Assumes nothing.
use mathlib.Core.Path.{◌≡◌, sym, ap, ◌∙◌}
use mathlib.Core.Logic.{◌⊎◌, inl, inr}
use mathlib.Core.Bool.{true}
use mathlib.Core.List.{List}
use mathlib.Core.Option.{none}
use Prim.Native.Nat.{ℕ, zero, suc, ◌+◌, ◌*◌, ◌/◌, ◌%◌, ◌≤◌, ◌<◌}
use native.Mathlib.Omega.{arith}
use lib.Dec.{ltb}
use lib.ListN.{get_or}
use borrow.Author.Tests.{ltb-true, ltb-false}
use Rattle.base.proofs.Lists.{cell_of_lem, is_list_from}
use Rattle.base.proofs.Tests.{by_test}
use Rattle.limits.specs.Limits.{most_symbols, most_sets, empty_set, table_cells}
use Rattle.masks.specs.Masks.{has}
use Rattle.masks.proofs.Laws.{member_of}
use Rattle.forms.specs.Form.{cell, picked, keeps, kept_at, kept_mask, failure_of, failures, masks, form_of}
use Rattle.forms.specs.Back.{rank, lookup, cell_of, back_of, back_cell, table_of}
use Rattle.forms.specs.Claims.{Numbered, IsTable}
use Rattle.forms.proofs.Picking as picking
use Rattle.masks.proofs.Passing.{mask_in, mask_has, mask_lt}
use Rattle.forms.proofs.Failure.{best_below_lem, first_keeps, left_out}
use Rattle.forms.proofs.PerSet.{of_set}
use Rattle.forms.proofs.Accepting.{Accepted, accepted_of}

-- the place of a cell says its set and symbol
pub place : (t s : ℕ) → s < most_symbols → ((t * most_symbols + s) / most_symbols ≡ t) × ((t * most_symbols + s) % most_symbols ≡ s)
place t s b = (omega arith, omega arith)

-- ---- a form of at most 512 sets and 16 symbols
module _ (n k : ℕ) (l : List ℕ) (few : n ≤ most_sets) (narrow : k ≤ most_symbols) where
  abbrev kept : List ℕ
  kept = masks n k l

  pub failure_at : (t : ℕ) → t < n → get_or (failures n k l) t 0 ≡ failure_of l k t
  failure_at t h = of_set n (failure_of l k) few t h

  pub mask_at : (t : ℕ) → t < n → get_or kept t 0 ≡ kept_mask l k t
  mask_at t h = of_set n (kept_mask l k) few t h

  pub kept_at_lem : (t s : ℕ) → t < n → s < k → has (get_or kept t 0) s ≡ keeps l k t s
  kept_at_lem t s h b = rw (mask_at t h) (mask_has (keeps l k t) k s b)

  -- a kept cell stands at its rank
  pub packed_at : (t s : ℕ) → t < n → s < k → keeps l k t s ≡ true → get_or (form_of n k l).cells (rank (form_of n k l) t s) 0 ≡ cell l t s
  packed_at t s h b e =
      let q = place t s (omega arith) in
      let e' : kept_at kept (t * most_symbols + s) ≡ true = rw (q.0, q.1) (kept_at_lem t s h b ∙ e) in
      let le = picking.many_le (kept_at kept) (t * most_symbols + s) in
      cell_of_lem table_cells (λ i. get_or (picked (kept_at kept) (λ c. get_or l c 0) (n * most_symbols)) i 0) (rank (form_of n k l) t s) 0 (omega arith)
      ∙ picking.picked_at (kept_at kept) (λ c. get_or l c 0) (n * most_symbols) (t * most_symbols + s) (omega arith) e'

  -- looked up by way of more sets than t
  looked_up_lem : (m t s : ℕ) → t < m → t < n → s < k → lookup (form_of n k l) m t s ≡ cell l t s
  unfolding lookup
  looked_up_lem zero t s h b d = absurd (omega arith)
  looked_up_lem (suc m) t s h b d =
      rw (kept_at_lem t s b d)
      (by_test (keeps l k t s)
      (λ e. rw e (packed_at t s b d e))
      (λ e.
      let o = left_out l k t s e in
      let f = best_below_lem l k t t o.0 in
      rw (e, failure_at t b) (looked_up_lem m (failure_of l k t) s (omega arith) (omega arith) d ∙ sym o.1)))

  pub same_cell : (t s : ℕ) → t < n → s < k → cell_of (form_of n k l) t s ≡ cell l t s
  same_cell t s h b = looked_up_lem (suc t) t s (omega arith) h b

-- ---- the form of a table
module _ (n k : ℕ) (l : List ℕ) (w : Numbered n k l) where
  kept_named : (c : ℕ) → c < n * most_symbols → kept_at (masks n k l) c ≡ true → (get_or l c 0 ≡ empty_set) ⊎ (get_or l c 0 < n)
  kept_named c h e =
      let b : c / 16 < n = omega arith in
      let e' : has (kept_mask l k (c / 16)) (c % 16) ≡ true = rw (mask_at n k l w.sets w.symbols (c / 16) b) at e in
      let d : c % 16 < k = (mask_in (keeps l k (c / 16)) k (c % 16) (member_of (kept_mask l k (c / 16)) (c % 16) e')).0 in
      let q : c / 16 * 16 + c % 16 ≡ c = omega arith in
      rw q at (w.names (c / 16) (c % 16) b d)

  pub accepted : Accepted (form_of n k l)
  accepted = record {
    some_set = w.some_set;
    sets = w.sets;
    some_symbol = w.some_symbol;
    symbols = w.symbols;
    down = λ t z h. rw (failure_at n k l w.sets w.symbols t h) (best_below_lem l k t t z);
    whole = λ s h. kept_at_lem n k l w.sets w.symbols 0 s (omega (arith, w.some_set)) h ∙ first_keeps l k s;
    only = λ t h. rw (mask_at n k l w.sets w.symbols t h) (mask_lt (keeps l k t) k);
    names = λ i h.
        let y = w.sets in
        let le = picking.many_le (kept_at (masks n k l)) (n * most_symbols) in
        rw (cell_of_lem table_cells (λ j. get_or (picked (kept_at (masks n k l)) (λ c. get_or l c 0) (n * most_symbols)) j 0) i 0 (omega arith))
        (picking.picked_each (kept_at (masks n k l)) (λ c. get_or l c 0) (λ x. (x ≡ empty_set) ⊎ (x < n)) (n * most_symbols) kept_named i h);
  }

pub same_next : (n k : ℕ) (l : List ℕ) → IsTable n k l → (table_of (form_of n k l)).next ≡ l
same_next n k l w = sym (is_list_from l table_cells (back_cell (form_of n k l)) w.long each)
  where
    each : (c : ℕ) → c < table_cells → get_or l c 0 ≡ back_cell (form_of n k l) c
    each c h =
        by_test (ltb (c / 16) n)
        (λ e.
        by_test (ltb (c % 16) k)
        (λ d.
        let q : c ≡ c / 16 * 16 + c % 16 = omega arith in
        rw (e, d)
        (ap (λ (x : ℕ). get_or l x 0) q
        ∙ sym (same_cell n k l w.numbered.sets w.numbered.symbols (c / 16) (c % 16) (ltb-true (c / 16) n e) (ltb-true (c % 16) k d))))
        (λ d. rw (e, d) (w.unused c h (inr (ltb-false (c % 16) k d)))))
        (λ e. rw e (w.unused c h (inl (ltb-false (c / 16) n e))))

pub round_trip : (n k : ℕ) (l : List ℕ) → IsTable n k l
    → back_of (form_of n k l) ≡ record { number = none; table = record { sets = n; symbols = k; next = l } }
round_trip n k l w =
    rw (accepted_of (form_of n k l) (accepted n k l w.numbered))
    (ap (λ (x : List ℕ). record { number = none; table = record { sets = n; symbols = k; next = x } }) (same_next n k l w))

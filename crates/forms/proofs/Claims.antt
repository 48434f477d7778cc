-- The one proof of all that specs/Claims.antt claims. Assumes nothing.
use mathlib.Core.Path.{◌≡◌, refl, ap, ◌∙◌}
use mathlib.Core.Logic.{◌↔◌}
use mathlib.Core.Bool.{not}
use mathlib.Core.List.{List}
use mathlib.Core.Option.{Option}
use Prim.Native.Nat.{ℕ, ◌*◌, ◌≤◌, ◌<◌}
use native.Mathlib.Omega.{arith}
use lib.Dec.{ltb}
use lib.ListN.{get_or, get_or-eq_default}
use borrow.Author.Tests.{eq-eqb, ne_eqb, ltb-true, ltb-false}
use Rattle.base.proofs.Lists.{cell_of_lem, length_list_from}
use Rattle.base.proofs.Tests.{by_test, not_both}
use Rattle.limits.specs.Limits.{most_symbols, table_cells}
use Rattle.masks.specs.Masks.{◌∈◌}
use Rattle.forms.specs.Form.{cell, kept_at, kept_mask, keeps, best_below, failure_of, picked, masks, form_of}
use Rattle.forms.specs.Back.{kept_count, back_by, table_of}
use Rattle.forms.specs.Claims.{Claims}
use Rattle.forms.proofs.Picking.{picked_past}
use Rattle.masks.proofs.Passing.{mask_in, mask_of_lem}
use Rattle.forms.proofs.Failure.{best_below_lem, best_most, best_lowest, first_keeps, differs}
use Rattle.forms.proofs.Fewest as fewest
use Rattle.forms.proofs.Accepting.{parts, refused_exactly, no_other}
use Rattle.forms.proofs.PerSet.{of_set, of_no_set}
use Rattle.forms.proofs.Trip as trip
use Rattle.forms.proofs.Reading as reading

kept_law : (k t s : ℕ) (l : List ℕ) → 0 < t → s < k → (s ∈ kept_mask l k t) ↔ (cell l t s ≡ cell l (failure_of l k t) s → ⊥)
kept_law k t s l z h = (
  (λ m e. not_both (mask_in (keeps l k t) k s m).1 (differs l k t s z ∙ ap not (eq-eqb (cell l t s) (cell l (failure_of l k t) s) e))),
  λ ne. mask_of_lem (keeps l k t) k s h (differs l k t s z ∙ ap not (ne_eqb (cell l t s) (cell l (failure_of l k t) s) ne)),
)

behind : (n k i : ℕ) (l : List ℕ) → kept_count (form_of n k l) ≤ i → get_or (form_of n k l).cells i 0 ≡ 0
behind n k i l h =
    by_test (ltb i table_cells)
    (λ e. cell_of_lem table_cells (λ j. get_or (picked (kept_at (masks n k l)) (λ c. get_or l c 0) (n * most_symbols)) j 0) i 0 (ltb-true i table_cells e)
    ∙ picked_past (kept_at (masks n k l)) (λ c. get_or l c 0) (n * most_symbols) i h)
    (λ e. get_or-eq_default (form_of n k l).cells 0
    (omega (arith, ltb-false i table_cells e, length_list_from 0 table_cells (λ j. get_or (picked (kept_at (masks n k l)) (λ c. get_or l c 0) (n * most_symbols)) j 0))))

first_failure : (k : ℕ) (l : List ℕ) → failure_of l k 0 ≡ 0
unfolding best_below
first_failure k l = refl

pub claims : Claims
claims = record {
  below = λ k t l. best_below_lem l k t t;
  most = λ k t u l. best_most l k t t u;
  lowest = λ k t u l. best_lowest l k t t u;
  not_different = λ k t u l. fewest.not_different l k t u;
  kept_differ = λ k t l. fewest.kept_differ l k t;
  fewest = λ k t u l. fewest.fewest l k t u;
  lowest_fewest = λ k t u l. fewest.lowest_fewest l k t u;
  first_failure = first_failure;
  first_keeps = λ k s l h. mask_of_lem (keeps l k 0) k s h (first_keeps l k s);
  kept = kept_law;
  only_symbols = λ k t s l m. (mask_in (keeps l k t) k s m).0;
  failure_of_lem = λ n k t l few. of_set n (failure_of l k) few t;
  mask_of_lem = λ n k t l few. of_set n (kept_mask l k) few t;
  no_set = λ n k t l h. (of_no_set n (failure_of l k) t h, of_no_set n (kept_mask l k) t h);
  packed = λ n k t s l few narrow h b m. trip.packed_at n k l few narrow t s h b (mask_in (keeps l k t) k s m).1;
  zeros = behind;
  round_trip = trip.round_trip;
  refused_exactly = refused_exactly;
  no_other = no_other;
  zeros_refused = λ f x e. ap (λ (o : Option ℕ). (back_by o (table_of f)).table) e;
  looked_up_lem = λ f e. reading.looked_up_lem f (parts f e);
  a_table = λ f e. reading.a_table f (parts f e);
  not_read = reading.not_read;
}

-- After every list of calls the finding is the one that the list says, and no other is. Assumes
-- nothing.
--
-- The searches come one after the other, and each finds nothing exactly where its words say so:
-- what the first that finds something finds is the finding (`faulted`), and a finding in words
-- makes the searches before it find nothing and its own find it (`found`).
use mathlib.Core.Path.{◌≡◌, refl, sym, ap, ◌∙◌, subst}
use mathlib.Core.Logic.{◌↔◌}
use mathlib.Core.Bool.{Bool, true, false, cond}
use mathlib.Core.List.{List}
use mathlib.Core.Option.{Option, none, some}
use Prim.Native.Nat.{ℕ, ◌<◌}
use native.Mathlib.Omega.{arith}
use lib.Dec.{eqb}
use borrow.Author.Tests.{eq-eqb, eqb-true, eqb-false}
use Rattle.base.specs.Options.{is_none}
use Rattle.base.proofs.Options.{is-none, is_some_lem}
use Rattle.base.proofs.Tests.{by_test}
use Rattle.automaton.specs.declared.Rule.{Rule}
use Rattle.automaton.specs.Rules.{WellFormed}
use Rattle.calls.specs.Calls.{install_number}
use Rattle.histories.specs.History.{rule_from}
use Rattle.histories.proofs.Steps.{accepted_rule}
use Rattle.trays.specs.Calls.{Call}
use Rattle.trayhistories.specs.History.{row_there, column_there, row_in, column_in, Size, board_there, bands_from, width_in, bands_in, rows_at}
use Rattle.trayhistories.specs.Claims.{tray_after}
use Rattle.trayhistories.proofs.EveryList.{every_list}
use Rattle.faults.specs.First.{or_else, or_then}
use Rattle.faults.specs.Faulting.{Finding, refused_as, row_at, column_at, short_at, open_with, rows_wrong, columns_stuck, columns_short, before_empty, beyond_rows, fault_of}
use Rattle.trayfaults.specs.Faults.{RowsRight, Before, Faulted}
use Rattle.trayfaults.proofs.Searching.{rows_right, row_wrong_lem, wrong_row, columns_kept, columns_stuck_lem, stuck_columns, all_accepted, one_short, short_one, empty_in, before_is, before_once}
use Rattle.trayfaults.proofs.Same.{fault_in, fault_after}

-- ---- the rules are well formed where a board is there
formed : (o : Option Rule) → (o ≡ none → ⊥) → ((r : Rule) → o ≡ some r → install_number r ≡ none) → WellFormed (rule_from o)
formed none there f = absurd (there refl)
formed (some r) there f = (accepted_rule r (f r refl)).0

module _ (h : List Call) where
  pub rules : (o : Option Size) → board_there h ≡ o → (board_there h ≡ none → ⊥) → WellFormed (row_in h) × WellFormed (column_in h)
  rules none e there = absurd (there e)
  rules (some s) e there =
      let both = (every_list h).board.rules s e in
      (formed (row_there h) both.0 (every_list h).board.row, formed (column_there h) both.1 (every_list h).board.column)

  -- a band is on a board
  pub on_board : (b : ℕ) → b < bands_in h → board_there h ≡ none → ⊥
  on_board b l e = let z : bands_in h ≡ 0 = ap bands_from e in omega (arith, l, z)

  -- the bands before the first empty one
  abbrev there_are : ℕ
  there_are = before_empty (empty_in h) (bands_in h)

  abbrev rows_found : Option Finding
  rows_found = rows_wrong (row_in h) (rows_at h) (bands_in h)

  abbrev lost_found : Option Finding
  lost_found = columns_stuck (column_in h) (rows_at h) (width_in h) there_are

  abbrev short_found : Option Finding
  short_found = columns_short (column_in h) (rows_at h) (width_in h) there_are

  module _ (there : board_there h ≡ none → ⊥) where
    good : WellFormed (row_in h) × WellFormed (column_in h)
    good = rules (board_there h) refl there

    board_is : is_none (board_there h) ≡ false
    board_is = (is_some_lem (board_there h)).1 there

    -- ---- the finding by the searches
    from_rows : (f : Finding) → rows_found ≡ some f → fault_in h ≡ f
    from_rows f e = rw (board_is, e)

    from_columns : (u v : Option Finding) (t : Bool) → rows_found ≡ none → lost_found ≡ u → short_found ≡ v → eqb there_are (bands_in h) ≡ t
        → fault_in h ≡ or_then (or_else u (cond t v none)) (open_with there_are)
    from_columns u v t a b c d = rw (board_is, a, b, c, d)

    -- ---- what is found, in words
    lost_words : RowsRight h → (f : Finding) → lost_found ≡ some f → Faulted h f
    lost_words right f e =
        let x = columns_stuck_lem h good.1 there_are f e in
        subst (Faulted h) (sym x.3) (there, right, (there_are, before_is h, x.4))

    not_lost : RowsRight h → lost_found ≡ none → (t : Bool) → eqb there_are (bands_in h) ≡ t → (v : Option Finding) → short_found ≡ v
        → Faulted h (or_then (cond t v none) (open_with there_are))
    not_lost right kept false part v e = (
      there,
      right,
      record {
        before = before_is h;
        hopeful = (columns_kept h good.1 there_are).0 kept;
        when_full = λ z. absurd (eqb-false there_are (bands_in h) part z);
      },
    )
    not_lost right kept true full none e = (
      there,
      right,
      record {
        before = before_is h;
        hopeful = (columns_kept h good.1 there_are).0 kept;
        when_full = λ z. (all_accepted h good.1 there_are).0 e;
      },
    )
    not_lost right kept true full (some f) e =
        let all : there_are ≡ bands_in h = eqb-true there_are (bands_in h) full in
        let x = one_short h good.1 (bands_in h) f (ap (columns_short (column_in h) (rows_at h) (width_in h)) (sym all) ∙ e) in
        subst (Faulted h) (sym x.1) (
          there,
          right,
          record {
            full = subst (Before h) all (before_is h);
            hopeful = (columns_kept h good.1 (bands_in h)).0 (ap (columns_stuck (column_in h) (rows_at h) (width_in h)) (sym all) ∙ kept);
            column = x.2.0;
            rejected = x.2.1;
            earlier = x.2.2;
          },
        )

    columns_words : RowsRight h → (u : Option Finding) → lost_found ≡ u
        → Faulted h (or_then (or_else u (cond (eqb there_are (bands_in h)) short_found none)) (open_with there_are))
    columns_words right none e = not_lost right e (eqb there_are (bands_in h)) refl short_found refl
    columns_words right (some f) e = lost_words right f e

    rows_words : (o : Option Finding) → rows_found ≡ o → Faulted h (or_then o (beyond_rows (column_in h) (width_in h) (rows_at h) (empty_in h) (bands_in h)))
    rows_words none e = columns_words ((rows_right h good.0).0 e) lost_found refl
    rows_words (some f) e = let x = row_wrong_lem h good.0 f e in subst (Faulted h) (sym x.2) x.3

    faulted_there : Faulted h (fault_in h)
    faulted_there = rw board_is (rows_words rows_found refl)

  pub faulted : Faulted h (fault_in h)
  faulted =
      by_test (is_none (board_there h))
      (λ e. rw e ((is-none (board_there h)).0 e, refl))
      (λ e. faulted_there ((is_some_lem (board_there h)).0 e))

  -- ---- a finding in words is found
  pub found : (f : Finding) → Faulted h f → fault_in h ≡ f
  found (refused_as x) w = let e = (is-none (board_there h)).1 w.0 in rw e (ap refused_as (sym w.1))
  found (row_at b i) w =
      let there = on_board b w.band in
      from_rows there (row_at b i) (wrong_row h (good there).0 b i w)
  found (column_at c b i) w =
      let there = w.0 in
      let x = w.2 in
      let same : x.0 ≡ there_are = before_once h x.0 there_are x.1 (before_is h) in
      let lost = ap (columns_stuck (column_in h) (rows_at h) (width_in h)) (sym same) ∙ stuck_columns h (good there).1 x.0 c b i x.2 in
      from_columns there (some (column_at c b i)) short_found (eqb there_are (bands_in h)) ((rows_right h (good there).0).1 w.1) lost refl refl
  found (short_at c) w =
      let there = w.0 in
      let x = w.2 in
      let all : bands_in h ≡ there_are = before_once h (bands_in h) there_are x.full (before_is h) in
      let kept = ap (columns_stuck (column_in h) (rows_at h) (width_in h)) (sym all) ∙ (columns_kept h (good there).1 (bands_in h)).1 x.hopeful in
      let short = ap (columns_short (column_in h) (rows_at h) (width_in h)) (sym all)
      ∙ short_one h (good there).1 (bands_in h) c (x.column, x.rejected, x.earlier) in
      from_columns there none (some (short_at c)) true ((rows_right h (good there).0).1 w.1) kept short (eq-eqb there_are (bands_in h) (sym all))
  found (open_with m) w =
      let there = w.0 in
      let x = w.2 in
      let same : m ≡ there_are = before_once h m there_are x.before (before_is h) in
      let right = (rows_right h (good there).0).1 w.1 in
      let kept = ap (columns_stuck (column_in h) (rows_at h) (width_in h)) (sym same) ∙ (columns_kept h (good there).1 m).1 x.hopeful in
      by_test (eqb there_are (bands_in h))
      (λ t.
      let short = ap (columns_short (column_in h) (rows_at h) (width_in h)) (sym same)
      ∙ (all_accepted h (good there).1 m).1 (x.when_full (same ∙ eqb-true there_are (bands_in h) t)) in
      from_columns there none none true right kept short t ∙ ap open_with (sym same))
      (λ t. from_columns there none short_found false right kept refl t ∙ ap open_with (sym same))

  pub fault : (f : Finding) → (fault_of (tray_after h) ≡ f) ↔ Faulted h f
  fault f = ((λ e. subst (Faulted h) (sym (fault_after h) ∙ e) faulted), λ w. fault_after h ∙ found f w)

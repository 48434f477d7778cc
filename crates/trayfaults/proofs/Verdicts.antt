-- What is found beside a verdict, and of a column rule that accepts nothing. Assumes nothing.
--
--   row_of_all, all-of-rows   each row of all is one of a band, and back
--   yes_exactly, no_exactly   the verdict says yes, and no
--   accepts_nothing           a column rule that accepts nothing
use mathlib.Core.Path.{◌≡◌, refl, sym, ap, ◌∙◌, subst}
use mathlib.Core.Logic.{◌↔◌, inl}
use mathlib.Core.List.{List, [], append-nil}
use mathlib.Core.Option.{Option, none, some}
use Prim.Native.Nat.{ℕ, zero, suc, ◌+◌, ◌-◌, ◌<◌}
use native.Mathlib.Omega.{arith}
use lib.Dec.{ltb}
use lib.ListN.{length, get_or}
use borrow.Author.Tests.{ltb-true, ltb-false}
use Rattle.base.specs.Totals.{total}
use Rattle.base.proofs.Tests.{by_test}
use Rattle.automaton.specs.Automaton.{Automaton, Accepts}
use Rattle.automaton.specs.Rules.{automaton_of}
use Rattle.live.specs.Continued.{Continued}
use Rattle.trays.specs.Replies.{says_yes, says_no}
use Rattle.trays.specs.Calls.{Call}
use Rattle.trays.specs.Claims.{rows_below}
use Rattle.trays.proofs.Claims as trays
use Rattle.trayhistories.specs.History.{row_in, Size, board_there, width_in, bands_in, empties_in, rows_at, rows_there, verdict_in}
use Rattle.trayhistories.specs.Claims.{tray_after, AllStandingAccepted}
use Rattle.trayhistories.proofs.EveryList.{every_list}
use Rattle.faults.specs.Faulting.{Finding, refused_as, row_at, column_at, short_at, open_with, fault_of}
use Rattle.trayfaults.specs.Faults.{RowsRight, Before, Open, Faulted, AcceptsNothing, IsFault}
use Rattle.trayfaults.proofs.Texts.{below_fits}
use Rattle.trayfaults.proofs.Searching.{before_is, before_once}
use Rattle.trayfaults.proofs.Faulting.{fault}

-- what is accepted can be continued, by nothing
as_it_is : (a : Automaton) (w : List ℕ) → Accepts a w → Continued a w
as_it_is a w x = record { rest = []; accepts = subst (Accepts a) (sym (append-nil w)) x }

-- a row of all is a row of a band
row_of_all : (at : ℕ → List (List ℕ)) (n k : ℕ) → k < rows_below at n → (b : ℕ) × (i : ℕ) × (b < n) × (i < length (at b)) × (k ≡ rows_below at b + i)
unfolding total
row_of_all at zero k l = absurd (omega arith)
row_of_all at (suc n) k l =
    by_test (ltb k (rows_below at n))
    (λ t. let x = row_of_all at n k (ltb-true k (rows_below at n) t) in (x.0, x.1, omega (arith, x.2), x.3, x.4))
    (λ t. let above = ltb-false k (rows_below at n) t in (n, k - rows_below at n, omega arith, omega (arith, l, above), omega (arith, above)))

module _ (h : List Call) where
  all_right : AllStandingAccepted h → RowsRight h
  all_right all b i l k =
      let law = (trays.claims).bands_law (rows_at h) (bands_in h) in
      subst (Accepts (automaton_of (row_in h))) (law.row b i l k)
      (all.every_row (rows_below (rows_at h) b + i) (omega (arith, k, law.rows, below_fits (rows_at h) (bands_in h) b l)))

  every_row : RowsRight h → (k : ℕ) → k < length (rows_there h) → Accepts (automaton_of (row_in h)) (get_or (rows_there h) k [])
  every_row right k l =
      let law = (trays.claims).bands_law (rows_at h) (bands_in h) in
      let x = row_of_all (rows_at h) (bands_in h) k (omega (arith, l, law.rows)) in
      subst (Accepts (automaton_of (row_in h))) (sym (law.row x.0 x.1 x.2 x.3) ∙ ap (λ (n : ℕ). get_or (rows_there h) n []) (sym x.4))
      (right x.0 x.1 x.2 x.3)

  module _ (there : board_there h ≡ none → ⊥) (full : empties_in h ≡ 0) where
    all_stand : Before h (bands_in h)
    all_stand = record {
      within = omega arith;
      stand = λ b l e. let some-empty = (every_list h).verdict.one_empty.1 (b, l, e) in omega (arith, full, some-empty);
      then_empty = λ l. absurd (omega arith);
    }

    open_all : AllStandingAccepted h → Faulted h (open_with (bands_in h))
    open_all all = (
      there,
      all_right all,
      record {
        before = all_stand;
        hopeful = λ d l. as_it_is _ _ (all.every_column d l);
        when_full = λ e d l. all.every_column d l;
      },
    )

    all_open : (m : ℕ) → Faulted h (open_with m) → AllStandingAccepted h
    all_open m w =
        let e : m ≡ bands_in h = before_once h m (bands_in h) w.2.before all_stand in
        let x : Open h (bands_in h) = subst (Open h) e w.2 in
        record { every_row = every_row w.1; every_column = x.when_full refl }

    pub yes_exactly : (verdict_in h ≡ says_yes) ↔ (fault_of (tray_after h) ≡ open_with (bands_in h))
    yes_exactly =
        let law = (every_list h).verdict.accepts there full in (
          (λ v. (fault h (open_with (bands_in h))).1 (open_all (law.0 v))),
          λ e. law.1 (all_open (bands_in h) ((fault h (open_with (bands_in h))).0 e)),
        )

    not-all : (AllStandingAccepted h → ⊥) → (f : Finding) → Faulted h f → IsFault f
    not-all n (refused_as x) w = absurd (there w.0)
    not-all n (row_at b i) w = tt
    not-all n (column_at c b i) w = tt
    not-all n (short_at c) w = tt
    not-all n (open_with m) w = n (all_open m w)

    pub no_exactly : (verdict_in h ≡ says_no) ↔ IsFault (fault_of (tray_after h))
    no_exactly =
        let law = (every_list h).verdict.rejects there full in (
          (λ v. not-all (law.0 v) (fault_of (tray_after h)) ((fault h (fault_of (tray_after h))).0 refl)),
          λ x. law.1 (λ all. subst IsFault ((fault h (open_with (bands_in h))).1 (open_all all)) x),
        )

  -- a board is at least one column wide
  pub some_column : (o : Option Size) → board_there h ≡ o → (board_there h ≡ none → ⊥) → 0 < width_in h
  some_column none e there = absurd (there e)
  some_column (some s) e there = omega (arith, (every_list h).board.width s e)

  pub accepts_nothing : (board_there h ≡ none → ⊥) → RowsRight h → AcceptsNothing h → fault_of (tray_after h) ≡ column_at 0 0 0
  accepts_nothing there right nothing =
      (fault h (column_at 0 0 0)).1 (
        there,
        right,
        (
          _,
          before_is h,
          record {
            column = some_column (board_there h) refl there;
            earlier = λ d l. absurd (omega arith);
            lost = inl ((λ x. nothing _ x.accepts), refl, refl);
          },
        ),
      )

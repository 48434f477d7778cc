-- What holds of the rules, the board and the bands that a list says are there, and R-13's words for
-- the verdict that it says. Assumes nothing.
--
-- The rules, the sizes and the bytes that stand met no condition when they came, which the state's
-- agreement with the list keeps. Which of the four a verdict is, is told by `by_cases` of
-- crates/trays; yes is a test, and the test decides acceptance of well-formed rules (`passes_law`).
use mathlib.Core.Path.{◌≡◌, refl, sym, ap, ◌∙◌, subst}
use mathlib.Core.Logic.Iff
use mathlib.Core.Logic.{◌↔◌, inl}
use mathlib.Core.Bool.{Bool, true, false, cond}
use mathlib.Core.List.{List, []}
use mathlib.Core.Option.{Option, none, some}
use Prim.Native.Nat.{ℕ, zero, suc, ◌≤◌, ◌<◌}
use native.Mathlib.Omega.{arith}
use lib.Dec.{leb}
use lib.ListN.{length, get_or}
use borrow.Author.Tests.{leb-true, leb-false}
use Rattle.base.specs.Options.{is_none}
use Rattle.base.specs.Totals.{total}
use Rattle.base.proofs.Options.{is-none, is_some_lem, none-some}
use Rattle.base.proofs.Tests.{by_test, not_both}
use Rattle.base.proofs.Totals.{term_most}
use Rattle.automaton.specs.declared.Rule.{Rule}
use Rattle.automaton.specs.Automaton.{Accepts}
use Rattle.automaton.specs.Rules.{automaton_of, WellFormed}
use Rattle.histories.specs.History.{rule_from}
use Rattle.histories.proofs.Conditions.{not-true}
use Rattle.histories.proofs.Steps.{accepted_rule}
use Rattle.calls.specs.Calls.{install_number}
use Rattle.trays.specs.declared.Tray.{Tray}
use Rattle.trays.specs.Rows.{column_of}
use Rattle.trays.specs.Calls.{Call}
use Rattle.trays.proofs.Passing.{whole_rows, both_texts}
use Rattle.trays.proofs.Rows.{passes_law}
use Rattle.trays.proofs.Verdicts.{by_cases}
use Rattle.trayhistories.specs.History.{row_there, column_there, row_in, column_in, Size, board_there, bands_from, width_in, bands_in, standing, empties_in, rows_there, yes_in}
use Rattle.trayhistories.specs.Claims.{BoardClauses, AllStandingAccepted, VerdictClauses}
use Rattle.trayhistories.proofs.Agreement.{Opened, opened_law, few}
use Rattle.trayhistories.proofs.Steps.{AgreesWith}
use Rattle.trayhistories.proofs.Conditions.{refused_exactly}

-- ---- an empty band
-- some term is not 0
one_counts : (f : ℕ → Bool) (n : ℕ) → 0 < total (λ p. cond (f p) 1 0) n → (p : ℕ) × (p < n) × (f p ≡ true)
unfolding total
one_counts f zero h = absurd (omega arith)
one_counts f (suc n) h =
    by_test (f n)
    (λ t. (n, omega arith, t))
    (λ t.
    let none_here : ◌≡◌ {A = ℕ} (cond (f n) 1 0) 0 = rw t in
    let x = one_counts f n (omega (arith, h, none_here)) in (x.0, omega (arith, x.1), x.2))

counts_one : (f : ℕ → Bool) (n p : ℕ) → p < n → f p ≡ true → 0 < total (λ q. cond (f q) 1 0) n
counts_one f n p l t =
    let one : ◌≡◌ {A = ℕ} (cond (f p) 1 0) 1 = rw t in
    omega (arith, one, term_most (λ q. cond (f q) 1 0) n p l)

-- ---- no rows
no_events : (c : ℕ) → column_of c [] ≡ []
unfolding column_of
no_events c = refl

module _ (h : List Call) (t : Tray) (good : AgreesWith h t) where
  opened : (s : Size) → board_there h ≡ some s → Opened (row_there h) (column_there h) s
  opened s e = opened_law (row_there h) (column_there h) s (good.opened s e)

  -- a board, by what is known of it
  with_board_lem : {A : Type 0} → ((s : Size) → board_there h ≡ some s → A) → (board_there h ≡ none → ⊥) → A
  with_board_lem {A} f there = by_board (board_there h) refl
    where
      by_board : (o : Option Size) → board_there h ≡ o → A
      by_board none e = absurd (there e)
      by_board (some s) e = f s e

  pub wide : (s : Size) → board_there h ≡ some s → (1 ≤ width_in h) × (width_in h ≤ 16)
  wide s e = rw e (opened s e).wide

  -- ---- the rules are well formed where a board is there
  well_formed : (o : Option Rule) → is_none o ≡ false → ((r : Rule) → o ≡ some r → install_number r ≡ none) → WellFormed (rule_from o)
  well_formed none e f = not_both refl e
  well_formed (some r) e f = (accepted_rule r (f r refl)).0

  pub board_words : BoardClauses h
  board_words = record {
    row = good.rules.row_good;
    column = good.rules.column_good;
    rules = λ s e. ((is_some_lem (row_there h)).0 (opened s e).row_there_lem, (is_some_lem (column_there h)).0 (opened s e).column_there_lem);
    width = wide;
    bands = λ s e. rw e (opened s e).many;
    stands = λ p b e.
        by_test (leb (bands_in h) p)
        (λ l. none-some (good.beyond p (leb-true (bands_in h) p l)) e)
        (λ l.
        let below = leb-false (bands_in h) p l in
        let fits : p < 8 = omega (arith, below, few (row_there h) (column_there h) (board_there h) (standing h) t good) in
        let passed = (good.bands_hold p fits).passed b e in
        (below, (whole_rows (width_in h) b (width_1 p below)).0 passed.0, (both_texts (row_in h).k (column_in h).k b).0 passed.1));
    no_marks = λ p b l whole i m e.
        let above : (row_in h).k ≤ get_or b i 0 = omega (arith, e, symbols p l) in
        ((refused_exactly h (λ s x. (wide s x).0)).deliver_13 p b).1 (l, whole, inl (i, m, above));
  }
    where
      -- no rule has as many symbols as the mark's number
      symbols : (p : ℕ) → p < bands_in h → (row_in h).k ≤ 16
      symbols p l = by_board (board_there h) refl
        where
          by_board : (o : Option Size) → board_there h ≡ o → (row_in h).k ≤ 16
          by_board none e = let none_there : bands_in h ≡ 0 = ap bands_from e in absurd (omega (arith, l, none_there))
          by_board (some s) e = (well_formed (row_there h) (opened s e).row_there_lem good.rules.row_good).symbols.1

      width_1 : (p : ℕ) → p < bands_in h → 1 ≤ width_in h
      width_1 p l = by_board (board_there h) refl
        where
          by_board : (o : Option Size) → board_there h ≡ o → 1 ≤ width_in h
          by_board none e = let none_there : bands_in h ≡ 0 = ap bands_from e in absurd (omega (arith, l, none_there))
          by_board (some s) e = (wide s e).0

  decides : (board_there h ≡ none → ⊥) → (yes_in h ≡ true) ↔ AllStandingAccepted h
  decides =
      with_board_lem
      (λ s e.
      passes_law (row_in h) (column_in h) (well_formed (row_there h) (opened s e).row_there_lem good.rules.row_good)
      (well_formed (column_there h) (opened s e).column_there_lem good.rules.column_good)
      (width_in h)
      (rows_there h))

  no_rows_law : (board_there h ≡ none → ⊥) → rows_there h ≡ [] → AllStandingAccepted h ↔ Accepts (automaton_of (column_in h)) []
  no_rows_law there e =
      let accepts : List ℕ → Type 0 = Accepts (automaton_of (column_in h)) in
      let column-is : (c : ℕ) → column_of c (rows_there h) ≡ [] = λ c. ap (column_of c) e ∙ no_events c in (
        (λ all. with_board_lem (λ s o. subst accepts (column-is 0) (all.every_column 0 (wide s o).0)) there),
        λ x. record {
          every_row = λ i l. let empty : length (rows_there h) ≡ 0 = ap length e in absurd (omega (arith, l, empty));
          every_column = λ c l. subst accepts (sym (column-is c)) x;
        },
      )

  pub verdict_words : VerdictClauses h
  verdict_words =
      let cases = by_cases (is_none (board_there h)) (empties_in h) (yes_in h) in
      let there-law = is_some_lem (board_there h) in record {
        none_there = Iff.trans cases.none_there (is-none (board_there h));
        waits = λ e. (
          (λ v. let x = (cases.waits e).0 v in (there-law.0 x.0, x.1, x.2)),
          λ x. (cases.waits e).1 (there-law.1 x.0, x.1, x.2),
        );
        one_empty = (
          (λ l. let x = one_counts (λ p. is_none (standing h p)) (bands_in h) l in (x.0, x.1, (is-none (standing h x.0)).0 x.2)),
          λ x. counts_one (λ p. is_none (standing h p)) (bands_in h) x.0 x.1 ((is-none (standing h x.0)).1 x.2),
        );
        accepts = λ there full. Iff.trans (cases.accepts (there-law.1 there) full) (decides there);
        rejects = λ there full. Iff.trans (cases.rejects (there-law.1 there) full) (not-true (yes_in h) (decides there));
        no_rows = λ e c. ap (column_of c) e ∙ no_events c;
        no_rows_verdict = λ there full e.
            Iff.trans (cases.accepts (there-law.1 there) full) (Iff.trans (decides there) (no_rows_law there e));
      }

-- Where a row stands among the rows of bands, and the columns of the first rows. Assumes nothing.
--
--   below_fits           a band's rows end where those of a later one begin, or before
--   take_up              the rows of the bands below b, and the first of band b behind them
--   column_less, column_part   what continues the column of some rows continues that of fewer
use mathlib.Core.Path.{◌≡◌, sym, ap, ◌∙◌, subst}
use mathlib.Core.Logic.{⊎_elim}
use mathlib.Core.List.{List, ◌++◌}
use Prim.Native.Nat.{ℕ, zero, suc, ◌+◌, ◌-◌, ◌≤◌, ◌<◌}
use native.Mathlib.Nat.{eq-or-lt_of_le, le_of_suc-le-suc}
use native.Mathlib.Omega.{arith}
use lib.ListN.{length, take, drop, take-append-drop}
use lib.Seq.{take-append-le, take-append-add, take-add}
use Rattle.base.specs.Totals.{total}
use Rattle.automaton.specs.Automaton.{Automaton}
use Rattle.live.specs.Continued.{Continued}
use Rattle.live.proofs.Hope.{continued_before}
use Rattle.trays.specs.Rows.{rows_up_to, column_of}
use Rattle.trays.specs.Claims.{rows_below}
use Rattle.trays.proofs.Claims as trays
use Rattle.trayverdict.proofs.Walks.{column_append}

module _ (at : ℕ → List (List ℕ)) where
  pub below_fits : (m b : ℕ) → b < m → rows_below at b + length (at b) ≤ rows_below at m
  unfolding total
  below_fits zero b l = absurd (omega arith)
  below_fits (suc m) b l =
      ⊎_elim
      (λ e. omega (arith, ap (rows_below at) e, ap (λ (q : ℕ). length (at q)) e))
      (λ k. omega (arith, below_fits m b k))
      (eq-or-lt_of_le (le_of_suc-le-suc l))

  last : (m j : ℕ) → take (rows_below at m + j) (rows_up_to at m ++ at m) ≡ rows_up_to at m ++ take j (at m)
  last m j =
      ap (λ (x : ℕ). take (x + j) (rows_up_to at m ++ at m)) (sym ((trays.claims).bands_law at m).rows)
      ∙ take-append-add (rows_up_to at m) (at m) j

  pub take_up : (m b j : ℕ) → b < m → j ≤ length (at b) → take (rows_below at b + j) (rows_up_to at m) ≡ rows_up_to at b ++ take j (at b)
  unfolding rows_up_to
  take_up zero b j l k = absurd (omega arith)
  take_up (suc m) b j l k =
      ⊎_elim
      (λ e. subst (λ (x : ℕ). take (rows_below at x + j) (rows_up_to at m ++ at m) ≡ rows_up_to at x ++ take j (at x)) (sym e) (last m j))
      (λ below.
      take-append-le (rows_below at b + j) (rows_up_to at m) (at m) (omega (arith, k, below_fits m b below, ((trays.claims).bands_law at m).rows))
      ∙ take_up m b j below k)
      (eq-or-lt_of_le (le_of_suc-le-suc l))

module _ (a : Automaton) (c : ℕ) (rows : List (List ℕ)) where
  pub column_less : (j k : ℕ) → j ≤ k → Continued a (column_of c (take k rows)) → Continued a (column_of c (take j rows))
  column_less j k l x =
      let e : j + (k - j) ≡ k = omega arith in
      continued_before a (column_of c (take j rows)) (column_of c (take (k - j) (drop j rows)))
      (subst (Continued a)
      (ap (λ (n : ℕ). column_of c (take n rows)) (sym e) ∙ ap (column_of c) (take-add j (k - j) rows) ∙ column_append c (take j rows) (take (k - j) (drop j rows)))
      x)

  pub column_part : (j : ℕ) → Continued a (column_of c rows) → Continued a (column_of c (take j rows))
  column_part j x =
      continued_before a (column_of c (take j rows)) (column_of c (drop j rows))
      (subst (Continued a) (ap (column_of c) (sym (take-append-drop j rows)) ∙ column_append c (take j rows) (drop j rows)) x)

-- The number that a call is refused with, read off the state, is the one that the list of calls
-- says, and so are the empty bands, the rows held and the verdict: each test of the state is the test
-- of the list, as far as the earlier ones fail. Assumes nothing.
use mathlib.Core.Path.{◌≡◌, ap, ◌∙◌}
use mathlib.Core.Bool.{Bool, true, false, cond, not, ◌||◌}
use mathlib.Core.List.{List, [], ◌∷◌}
use mathlib.Core.Option.{Option, none, some}
use Prim.Native.Nat.{ℕ}
use native.Mathlib.Omega.{arith}
use lib.Dec.{leb}
use borrow.Author.Tests.{leb-false}
use Rattle.base.specs.Conditions.{Condition, on, first_of}
use Rattle.base.specs.Options.{is_none, is_some}
use Rattle.base.specs.Totals.{total}
use Rattle.base.proofs.Options.{not_none}
use Rattle.base.proofs.Tests.{by_test}
use Rattle.automaton.specs.declared.Rule.{Rule}
use Rattle.histories.specs.History.{rule_from}
use Rattle.histories.proofs.Numbers.{same_test}
use Rattle.trays.specs.declared.Tray.{Tray}
use Rattle.trays.specs.Rows.{passes}
use Rattle.trays.specs.Calls.{not_rows, foreign_to, open_conditions, deliver_conditions, withdraw_conditions, verdict_by}
use Rattle.trays.specs.Boards.{width_of, bands_of, is_empty, empty_bands, rows_held}
use Rattle.trays.specs.mirror.Steps.{lacks_rule, lacks_board, is_yes, verdict_of}
use Rattle.trays.proofs.Bands.{empty_law, held_law}
use Rattle.trayhistories.specs.History.{Size, width_from, bands_from, deliver_check, withdraw_check, rows_from, joined_rows}
use Rattle.trayhistories.proofs.Agreement.{Agrees, few, no_rule_lem, no_board, bands_same, width_same}

module _ (row column : Option Rule) (board : Option Size) (at : ℕ → Option (List ℕ)) (t : Tray) (holds : Agrees row column board at t) where
  abbrev kr : ℕ
  kr = (rule_from row).k

  abbrev kc : ℕ
  kc = (rule_from column).k

  pub open_number_lem : (w n : ℕ) → first_of (open_conditions (lacks_rule t) w n) ≡ first_of (open_conditions (is_none row || is_none column) w n)
  open_number_lem w n = ap (λ (x : Bool). first_of (open_conditions x w n)) (no_rule_lem row column board at t holds)

  -- past 11 the band is one of the board's
  pub withdraw_number_lem : (p : ℕ)
      → first_of (withdraw_conditions (lacks_board t) (bands_of t.board) (is_empty t.board p) p) ≡ withdraw_check board (at p) p
  withdraw_number_lem p =
      same_test 21 (lacks_board t) (is_none board) (first_of (on 11 (leb (bands_of t.board) p) ∷ on 23 (is_empty t.board p) ∷ []))
      (first_of (on 11 (leb (bands_from board) p) ∷ on 23 (is_none (at p)) ∷ []))
      (no_board row column board at t holds)
      (λ b.
      same_test 11 (leb (bands_of t.board) p) (leb (bands_from board) p) (cond (is_empty t.board p) (some 23) none) (cond (is_none (at p)) (some 23) none)
      (ap (λ (x : ℕ). leb x p) (bands_same row column board at t holds))
      (λ l.
      ap (λ (x : Bool). cond x (some 23) none)
      (holds.bands_hold p (omega (arith, leb-false (bands_from board) p l, few row column board at t holds))).empty))

  pub deliver_number_lem : (p : ℕ) (b : List ℕ)
      → first_of (deliver_conditions (lacks_board t) (bands_of t.board) (width_of t.board) t.row.k t.column.k (not (is_empty t.board p)) p b)
      ≡ deliver_check kr kc board (at p) p b
  deliver_number_lem p b =
      same_test 21 (lacks_board t) (is_none board)
      (first_of (on 11 (leb (bands_of t.board) p) ∷ from_39 (width_of t.board) t.row.k t.column.k (not (is_empty t.board p))))
      (first_of (on 11 (leb (bands_from board) p) ∷ from_39 (width_from board) kr kc (is_some (at p))))
      (no_board row column board at t holds)
      (λ there.
      same_test 11 (leb (bands_of t.board) p) (leb (bands_from board) p)
      (first_of (from_39 (width_of t.board) t.row.k t.column.k (not (is_empty t.board p))))
      (first_of (from_39 (width_from board) kr kc (is_some (at p))))
      (ap (λ (x : ℕ). leb x p) (bands_same row column board at t holds))
      (λ l.
      let filled : not (is_empty t.board p) ≡ is_some (at p) =
      ap not (holds.bands_hold p (omega (arith, leb-false (bands_from board) p l, few row column board at t holds))).empty ∙ not_none (at p) in
      rw (width_same row column board at t holds there, holds.rules.row_is, holds.rules.column-is, filled)))
    where
      from_39 : ℕ → ℕ → ℕ → Bool → List Condition
      from_39 w x y filled = on 39 (not_rows w b) ∷ on 13 (foreign_to x y b) ∷ on 22 filled ∷ []

  -- ---- the verdict
  pub empties_same : empty_bands t.board ≡ total (λ p. cond (is_none (at p)) 1 0) (bands_from board)
  empties_same =
      empty_law t.board (λ p. is_none (at p)) (λ p l. (holds.bands_hold p (omega (arith, l))).empty)
      ∙ ap (total (λ p. cond (is_none (at p)) 1 0)) (bands_same row column board at t holds)

  pub held_same : rows_held t.board ≡ joined_rows (width_from board) at (bands_from board)
  held_same =
      held_law t.board (λ p. rows_from (width_from board) (at p)) (λ p l. (holds.bands_hold p (omega (arith, l))).rows)
      ∙ ap (joined_rows (width_from board) at) (bands_same row column board at t holds)

  yes_same : is_none board ≡ false
      → is_yes t ≡ passes (rule_from row) (rule_from column) (width_from board) (joined_rows (width_from board) at (bands_from board))
  yes_same there =
      same_passes holds.rules.row_is holds.rules.column-is (width_same row column board at t holds there) held_same
    where
      same_passes : {a x : Rule} {b y : Rule} {v w : ℕ} {f g : List (List ℕ)} → a ≡ x → b ≡ y → v ≡ w → f ≡ g → passes a b v f ≡ passes x y w g
      same_passes p q r s = rw (p, q, r, s)

  -- without a board it is 21 on both sides
  pub verdict_same : verdict_of t
      ≡ verdict_by (is_none board) (total (λ p. cond (is_none (at p)) 1 0) (bands_from board))
      (passes (rule_from row) (rule_from column) (width_from board) (joined_rows (width_from board) at (bands_from board)))
  unfolding verdict_of
  verdict_same =
      by_test (is_none board)
      (λ e. let lacks : lacks_board t ≡ true = no_board row column board at t holds ∙ e in rw (lacks, e))
      (λ e. same_verdict (no_board row column board at t holds) empties_same (yes_same e))
    where
      same_verdict : {a x : Bool} {m n : ℕ} {b y : Bool} → a ≡ x → m ≡ n → b ≡ y → verdict_by a m b ≡ verdict_by x n y
      same_verdict p q r = rw (p, q, r)

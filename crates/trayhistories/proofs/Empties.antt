-- The number of empty bands call by call, as specs/Empties.antt says: the sums of
-- crates/histories/proofs/Empties.antt, over bands. Assumes nothing.
use mathlib.Core.Path.{◌≡◌, refl, sym, ap, ◌∙◌}
use mathlib.Core.List.{List, ◌∷◌}
use mathlib.Core.Option.{none}
use Prim.Native.Nat.{ℕ, ◌+◌}
use borrow.Author.Tests.{leb-false}
use Rattle.base.specs.Options.{is_none, is_some}
use Rattle.base.specs.Totals.{total}
use Rattle.base.proofs.Conditions.{none_law}
use Rattle.base.proofs.Options.{none-some, not_some}
use Rattle.histories.proofs.Empties.{all-empty, same_empties, one_filled, one_emptied}
use Rattle.trays.specs.Calls.{Call, installs_row, installs_column, opens, delivers, withdraws, deliver_conditions, withdraw_conditions}
use Rattle.trayhistories.specs.History.{row_in, column_in, board_there, bands_from, width_in, bands_in, standing, empties_in}
use Rattle.trayhistories.specs.Last.{Accepted}
use Rattle.trayhistories.specs.Empties.{EmptyBands}
use Rattle.trayhistories.proofs.Last.{deliver_is, withdraw_is, board_set, board_kept, band_set_lem, band_kept}

module _ (h : List Call) where
  kept_number : (c : Call) → (Accepted h c → ⊥) → empties_in (c ∷ h) ≡ empties_in h
  kept_number c n =
      same_empties (standing (c ∷ h)) (standing h) (bands_in (c ∷ h)) (bands_in h) (λ p. band_kept p h c (λ k a. n a))
      (ap bands_from (board_kept h c (λ k a. n a)))

  -- no board is left
  removed : (c : Call) → board_there (c ∷ h) ≡ none → empties_in (c ∷ h) ≡ 0
  unfolding total
  removed c e = rw e

  opened_number : (w n : ℕ) → Accepted h (opens w n) → empties_in (opens w n ∷ h) ≡ n
  opened_number w n a =
      all-empty (standing (opens w n ∷ h)) (bands_in (opens w n ∷ h)) (λ p. band_set_lem p h (opens w n) tt a)
      ∙ ap bands_from (board_set h (opens w n) tt a)

  -- past 22 the band is empty
  filled_number : (p : ℕ) (b : List ℕ) → Accepted h (delivers p b) → empties_in (delivers p b ∷ h) + 1 ≡ empties_in h
  unfolding board_there
  filled_number p b a =
      let e = sym (deliver_is h p b) ∙ a in
      let passes = (none_law (deliver_conditions (is_none (board_there h)) (bands_in h) (width_in h) (row_in h).k (column_in h).k (is_some (standing h p)) p b)).0 e in
      one_filled (standing (delivers p b ∷ h)) (standing h) (bands_in h) p (leb-false (bands_in h) p passes.1.0)
      (λ q ne. band_kept q h (delivers p b) (λ k _. ne (sym k)))
      (ap is_none (band_set_lem p h (delivers p b) refl a))
      (ap is_none ((not_some (standing h p)).0 passes.1.1.1.1.0))

  withdrawn_number : (p : ℕ) → Accepted h (withdraws p) → empties_in (withdraws p ∷ h) ≡ empties_in h + 1
  unfolding board_there
  withdrawn_number p a =
      let e = sym (withdraw_is h p) ∙ a in
      let passes = (none_law (withdraw_conditions (is_none (board_there h)) (bands_in h) (is_none (standing h p)) p)).0 e in
      one_emptied (standing (withdraws p ∷ h)) (standing h) (bands_in h) p (leb-false (bands_in h) p passes.1.0)
      (λ q ne. band_kept q h (withdraws p) (λ k _. ne (sym k)))
      (ap is_none (band_set_lem p h (withdraws p) refl a))
      passes.1.1.0

pub empty_bands_lem : EmptyBands empties_in
unfolding board_there total standing
empty_bands_lem = record {
  at_first = refl;
  opened = opened_number;
  filled = filled_number;
  withdrawn = withdrawn_number;
  row_installed = λ h r a. removed h (installs_row r) (board_set h (installs_row r) tt a);
  column_installed = λ h r a. removed h (installs_column r) (board_set h (installs_column r) tt a);
  asked = λ h. refl;
  refused = λ h c x e. kept_number h c (λ a. none-some a e);
}

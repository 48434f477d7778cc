-- After every call the state agrees with the list of calls, and the call's answer is the one that
-- the list says. `AgreesWith h t` is the invariant; one lemma a call. Assumes nothing.
use mathlib.Core.Path.{◌≡◌, refl, sym, ap, ◌∙◌, subst, subst₂, fun_ext}
use mathlib.Core.Bool.{Bool, false, cond, ◌&&◌, and-true, and-false}
use mathlib.Core.List.{List, [], ◌∷◌}
use mathlib.Core.Option.{Option, none, some}
use Prim.Native.Nat.{ℕ}
use lib.Dec.{eqb}
use borrow.Author.Tests.{leb-false}
use Rattle.base.specs.Options.{is_none, is_some}
use Rattle.base.proofs.Conditions.{none_law}
use Rattle.automaton.specs.declared.Rule.{Rule}
use Rattle.calls.specs.Calls.{install_number}
use Rattle.histories.proofs.Agreement.{placed}
use Rattle.trays.specs.declared.Tray.{Tray}
use Rattle.trays.specs.Replies.{Reply, accepted, reply_by, with_sets}
use Rattle.trays.specs.Calls.{Call, installs_row, installs_column, opens, delivers, withdraws, asks_verdict, deliver_conditions, withdraw_conditions}
use Rattle.trays.specs.Boards.{empty_board, filled_at, cleared_at}
use Rattle.trays.specs.mirror.Steps.{fresh, with_board, outcome_by, with_row, with_column, install_row_of, install_column_of, open_of, deliver_of, withdraw_of, verdict_of}
use Rattle.trayhistories.specs.History.{row_there, column_there, row_in, column_in, open_number, Size, board_there, bands_in, width_in, standing, deliver_number, withdraw_number, verdict_in}
use Rattle.trayhistories.proofs.Agreement.{Agrees, kept_rules, all-empty, all_removed, fresh_holds, cleared_holds, filled_holds}
use Rattle.trayhistories.proofs.Numbers.{open_number_lem, withdraw_number_lem, deliver_number_lem, verdict_same}

abbrev pub AgreesWith : List Call → Tray → Type 0
AgreesWith h t = Agrees (row_there h) (column_there h) (board_there h) (standing h) t

pub good_fresh : AgreesWith [] fresh
unfolding row_there column_there board_there standing
good_fresh = fresh_holds

-- the same rules, board and bands
transfer : {row row' column column' : Option Rule} {board board' : Option Size} {at at' : ℕ → Option (List ℕ)} (t : Tray)
    → row ≡ row' → column ≡ column' → board ≡ board' → ((p : ℕ) → at p ≡ at' p)
    → Agrees row column board at t → Agrees row' column' board' at' t
transfer {row' = row'} {column' = column'} {board = board} {at = at} t r c b a holds =
    subst₂ (λ x y. Agrees row' column' x y t) b (fun_ext a) (subst₂ (λ x y. Agrees x y board at t) r c holds)

by_says : (number : Option ℕ) (a : Reply) (t next : Tray) → (outcome_by number a t next).reply ≡ reply_by number a
by_says none a t next = refl
by_says (some x) a t next = refl

-- what a band has after a call on band p, where `t` says that it is that band
module _ {A : Type 0} (t : Bool) (o : Option ℕ) (new old : A) where
  pub accepted_band : o ≡ none → cond (t && is_none o) new old ≡ cond t new old
  accepted_band e = ap (λ (x : Bool). cond x new old) (ap (λ (u : Bool). t && u) (ap is_none e) ∙ and-true t)

  pub refused_band : is_none o ≡ false → cond (t && is_none o) new old ≡ old
  refused_band e = ap (λ (x : Bool). cond x new old) (ap (λ (u : Bool). t && u) e ∙ and-false t)

-- the one rule of an accepted installation
only_rule : (r : Rule) → install_number r ≡ none → (x : Rule) → some r ≡ some x → install_number x ≡ none
only_rule r e x s = let z : r ≡ x = cc in subst (λ y. install_number y ≡ none) z e

module _ (h : List Call) (t : Tray) (good : AgreesWith h t) where
  -- ---- the installations
  module _ (r : Rule) where
    row_installed : (number : Option ℕ) → install_number r ≡ number
        → AgreesWith (installs_row r ∷ h) (outcome_by number (with_sets r) t (with_row t r)).state
    unfolding row_there column_there board_there standing
    row_installed none e =
        transfer (with_row t r) (sym (rw e)) refl (sym (rw e)) (λ p. sym (rw e))
        (all_removed (some r) (column_there h) (with_row t r) (record {
          row_is = refl;
          column-is = good.rules.column-is;
          row_good = only_rule r e;
          column_good = good.rules.column_good;
        }) refl)
    row_installed (some x) e = transfer t (sym (rw e)) refl (sym (rw e)) (λ p. sym (rw e)) good

    column_installed : (number : Option ℕ) → install_number r ≡ number
        → AgreesWith (installs_column r ∷ h) (outcome_by number (with_sets r) t (with_column t r)).state
    unfolding row_there column_there board_there standing
    column_installed none e =
        transfer (with_column t r) refl (sym (rw e)) (sym (rw e)) (λ p. sym (rw e))
        (all_removed (row_there h) (some r) (with_column t r) (record {
          row_is = good.rules.row_is;
          column-is = refl;
          row_good = good.rules.row_good;
          column_good = only_rule r e;
        }) refl)
    column_installed (some x) e = transfer t refl (sym (rw e)) (sym (rw e)) (λ p. sym (rw e)) good

    pub install_row_good : AgreesWith (installs_row r ∷ h) (install_row_of t r).state
    unfolding install_row_of
    install_row_good = row_installed (install_number r) refl

    pub install_column_good : AgreesWith (installs_column r ∷ h) (install_column_of t r).state
    unfolding install_column_of
    install_column_good = column_installed (install_number r) refl

    pub install_row_says : (install_row_of t r).reply ≡ reply_by (install_number r) (with_sets r)
    unfolding install_row_of
    install_row_says = by_says (install_number r) (with_sets r) t (with_row t r)

    pub install_column_says : (install_column_of t r).reply ≡ reply_by (install_number r) (with_sets r)
    unfolding install_column_of
    install_column_says = by_says (install_number r) (with_sets r) t (with_column t r)

  -- ---- open
  module _ (w n : ℕ) where
    abbrev opened_tray : Tray
    opened_tray = with_board t (empty_board w n)

    open_is : open_of t w n ≡ outcome_by (open_number h w n) accepted t opened_tray
    unfolding open_of
    open_is =
        ap (λ (x : Option ℕ). outcome_by x accepted t opened_tray)
        (open_number_lem (row_there h) (column_there h) (board_there h) (standing h) t good w n)

    opened_good : (o : Option ℕ) → open_number h w n ≡ o → AgreesWith (opens w n ∷ h) (outcome_by o accepted t opened_tray).state
    unfolding row_there column_there board_there standing
    opened_good none e =
        transfer opened_tray refl refl (sym (rw e)) (λ p. sym (rw e))
        (all-empty (row_there h) (column_there h) (some (record { width = w; bands = n })) opened_tray (kept_rules (row_there h) (column_there h) t (empty_board w n) good.rules) refl
        (λ s x. let z : record { width = w; bands = n } ≡ s = cc in subst (λ (y : Size). open_number h y.width y.bands ≡ none) z e))
    opened_good (some x) e = transfer t refl refl (sym (rw e)) (λ p. sym (rw e)) good

    pub open_good : AgreesWith (opens w n ∷ h) (open_of t w n).state
    open_good = subst (λ o. AgreesWith (opens w n ∷ h) o.state) (sym open_is) (opened_good (open_number h w n) refl)

    pub open_says : (open_of t w n).reply ≡ reply_by (open_number h w n) accepted
    open_says = ap (λ o. o.reply) open_is ∙ by_says (open_number h w n) accepted t opened_tray

  -- ---- withdraw
  module _ (p : ℕ) where
    abbrev cleared : Tray
    cleared = with_board t (cleared_at t.board p)

    withdraw_is : withdraw_of t p ≡ outcome_by (withdraw_number h p) accepted t cleared
    unfolding withdraw_of
    withdraw_is =
        ap (λ (x : Option ℕ). outcome_by x accepted t cleared)
        (withdraw_number_lem (row_there h) (column_there h) (board_there h) (standing h) t good p)

    withdrawn_good : (o : Option ℕ) → withdraw_number h p ≡ o → AgreesWith (withdraws p ∷ h) (outcome_by o accepted t cleared).state
    unfolding row_there column_there board_there standing placed
    withdrawn_good none e =
        let passes = (none_law (withdraw_conditions (is_none (board_there h)) (bands_in h) (is_none (standing h p)) p)).0 e in
        transfer cleared refl refl refl
        (λ i. sym (accepted_band (eqb p i) (withdraw_number h p) none (standing h i) e))
        (cleared_holds (row_there h) (column_there h) (board_there h) (standing h) t good p (leb-false (bands_in h) p passes.1.0))
    withdrawn_good (some x) e =
        transfer t refl refl refl
        (λ i. sym (refused_band (eqb p i) (withdraw_number h p) none (standing h i) (ap is_none e)))
        good

    pub withdraw_good : AgreesWith (withdraws p ∷ h) (withdraw_of t p).state
    withdraw_good = subst (λ o. AgreesWith (withdraws p ∷ h) o.state) (sym withdraw_is) (withdrawn_good (withdraw_number h p) refl)

    pub withdraw_says : (withdraw_of t p).reply ≡ reply_by (withdraw_number h p) accepted
    withdraw_says = ap (λ o. o.reply) withdraw_is ∙ by_says (withdraw_number h p) accepted t cleared

  -- ---- deliver
  module _ (p : ℕ) (b : List ℕ) where
    abbrev kept : Tray
    kept = with_board t (filled_at t.board p b)

    deliver_is : deliver_of t p b ≡ outcome_by (deliver_number h p b) accepted t kept
    unfolding deliver_of
    deliver_is =
        ap (λ (x : Option ℕ). outcome_by x accepted t kept)
        (deliver_number_lem (row_there h) (column_there h) (board_there h) (standing h) t good p b)

    delivered_good : (o : Option ℕ) → deliver_number h p b ≡ o → AgreesWith (delivers p b ∷ h) (outcome_by o accepted t kept).state
    unfolding row_there column_there board_there standing placed
    -- refused, the band is as it was
    delivered_good (some x) e =
        transfer t refl refl refl
        (λ i. sym (refused_band (eqb p i) (deliver_number h p b) (some b) (standing h i) (ap is_none e)))
        good
    delivered_good none e =
        let passes = (none_law (deliver_conditions (is_none (board_there h)) (bands_in h) (width_in h) (row_in h).k (column_in h).k (is_some (standing h p)) p b)).0 e in
        transfer kept refl refl refl
        (λ i. sym (accepted_band (eqb p i) (deliver_number h p b) (some b) (standing h i) e))
        (filled_holds (row_there h) (column_there h) (board_there h) (standing h) t good p (leb-false (bands_in h) p passes.1.0) b passes.0 (passes.1.1.0, passes.1.1.1.0))

    pub deliver_good : AgreesWith (delivers p b ∷ h) (deliver_of t p b).state
    deliver_good = subst (λ o. AgreesWith (delivers p b ∷ h) o.state) (sym deliver_is) (delivered_good (deliver_number h p b) refl)

    pub deliver_says : (deliver_of t p b).reply ≡ reply_by (deliver_number h p b) accepted
    deliver_says = ap (λ o. o.reply) deliver_is ∙ by_says (deliver_number h p b) accepted t kept

  -- ---- verdict
  pub ask_good : AgreesWith (asks_verdict ∷ h) t
  unfolding row_there column_there board_there standing
  ask_good = good

  pub verdict_says : verdict_of t ≡ verdict_in h
  verdict_says = verdict_same (row_there h) (column_there h) (board_there h) (standing h) t good

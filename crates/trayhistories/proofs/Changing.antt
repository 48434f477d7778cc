-- What an accepted call changes of what the list says is there, and that two deliveries to two bands
-- may come in either order. Assumes nothing.
use mathlib.Core.Path.{◌≡◌, refl, sym, ap, ◌∙◌, fun_ext}
use mathlib.Core.Bool.{Bool, true, false, cond, ◌&&◌}
use mathlib.Core.List.{List, ◌∷◌}
use mathlib.Core.Option.{Option, none, some}
use Prim.Native.Nat.{ℕ}
use lib.Dec.{eqb}
use borrow.Author.Tests.{eq-eqb, ne_eqb, eqb-true}
use Rattle.base.specs.Options.{is_none}
use Rattle.base.specs.Totals.{total}
use Rattle.base.proofs.Tests.{by_test, not_both}
use Rattle.trays.specs.Rows.{passes}
use Rattle.trays.specs.Replies.{Judgement, accepted, reply_by}
use Rattle.trays.specs.Calls.{Call, delivers, asks_verdict, verdict_by}
use Rattle.trayhistories.specs.History.{row_there, column_there, row_in, column_in, open_number, board_there, width_in, bands_in, deliver_check, standing, joined_rows, deliver_number, withdraw_number}
use Rattle.trayhistories.specs.Claims.{Unchanged, Changes, AnyOrder}
use Rattle.trayhistories.proofs.Steps.{accepted_band}
use Rattle.trayhistories.proofs.Conditions.{reply_law}

-- ---- one band, by whether it is the call's
module _ {A : Type 0} (p : ℕ) (o : Option ℕ) (new : A) where
  own : (old : A) → o ≡ none → cond (eqb p p && is_none o) new old ≡ new
  own old e = accepted_band (eqb p p) o new old e ∙ rw (eq-eqb p p refl)

  other : (q : ℕ) → (q ≡ p → ⊥) → (old : A) → cond (eqb p q && is_none o) new old ≡ old
  other q ne old = rw (ne_eqb p q (λ e. ne (sym e)))

-- ---- what an accepted call changes
pub changes : (h : List Call) → Unchanged h asks_verdict → Changes h
unfolding row_there column_there board_there standing
changes h asked = record {
  row_installed = λ r e. (rw e, refl, (rw e, λ p. rw e));
  column_installed = λ r e. (refl, rw e, (rw e, λ p. rw e));
  opened = λ w n a. let e = (reply_law (open_number h w n)).0 a in ((refl, refl), rw e, λ p. rw e);
  delivered = λ p b a.
      let e = (reply_law (deliver_number h p b)).0 a in (
        (refl, refl),
        (
          refl,
          own p (deliver_number h p b) (some b) (standing h p) e,
          λ q ne. other p (deliver_number h p b) (some b) q ne (standing h q),
        ),
      );
  withdrawn = λ p a.
      let e = (reply_law (withdraw_number h p)).0 a in (
        (refl, refl),
        (
          refl,
          own p (withdraw_number h p) none (standing h p) e,
          λ q ne. other p (withdraw_number h p) none q ne (standing h q),
        ),
      );
  asked = asked;
}

-- ---- two deliveries to two bands
-- the number of one does not hang on the other
same_number : (h : List Call) (p q : ℕ) → (p ≡ q → ⊥) → (b c : List ℕ) → deliver_number (delivers q c ∷ h) p b ≡ deliver_number h p b
unfolding row_there column_there board_there standing
same_number h p q ne b c =
    ap (λ (o : Option (List ℕ)). deliver_check (row_in h).k (column_in h).k (board_there h) o p b)
    (other q (deliver_number h q c) (some c) p ne (standing h p))

-- of two tests at most one holds, so that either may be made first
exchanged : {A : Type 0} (s t : Bool) (u v x : A) → (s ≡ true → t ≡ false) → cond s u (cond t v x) ≡ cond t v (cond s u x)
exchanged true t u v x apart = rw (apart refl)
exchanged false t u v x apart = refl

module _ (h : List Call) (p q : ℕ) (ne : p ≡ q → ⊥) (b c : List ℕ) where
  same_bands : (i : ℕ) → standing (delivers p b ∷ delivers q c ∷ h) i ≡ standing (delivers q c ∷ delivers p b ∷ h) i
  unfolding standing row_there column_there board_there
  same_bands i =
      ap (λ (o : Option ℕ). cond (eqb p i && is_none o) (some b) (standing (delivers q c ∷ h) i)) (same_number h p q ne b c)
      ∙ exchanged (eqb p i && is_none (deliver_number h p b)) (eqb q i && is_none (deliver_number h q c)) (some b) (some c) (standing h i) apart
      ∙ ap (λ (o : Option ℕ). cond (eqb q i && is_none o) (some c) (standing (delivers p b ∷ h) i))
      (sym (same_number h q p (λ e. ne (sym e)) c b))
    where
      apart : (eqb p i && is_none (deliver_number h p b)) ≡ true → (eqb q i && is_none (deliver_number h q c)) ≡ false
      apart e =
          by_test (eqb q i)
          (λ t.
          let z : eqb p i ≡ false = ne_eqb p i (λ y. ne (y ∙ sym (eqb-true q i t))) in
          not_both e (rw z))
          (λ t. rw t)

  pub any_order : AnyOrder h p q b c
  unfolding row_there column_there board_there
  any_order = record {
    answered = ap (λ (o : Option ℕ). reply_by o accepted) (same_number h p q ne b c);
    bands = same_bands;
    verdict = ap verdict_with (fun_ext same_bands);
  }
    where
      verdict_with : (ℕ → Option (List ℕ)) → Judgement
      verdict_with at =
          verdict_by (is_none (board_there h)) (total (λ i. cond (is_none (at i)) 1 0) (bands_in h))
          (passes (row_in h) (column_in h) (width_in h) (joined_rows (width_in h) at (bands_in h)))

-- Revisions in document 02's words (R-11), as specs/Revisions.antt claims them. Assumes nothing.
use mathlib.Core.Path.{◌≡◌, refl}
use mathlib.Core.Bool.{◌&&◌}
use mathlib.Core.List.{List, [], ◌∷◌}
use mathlib.Core.Option.{none, some}
use Prim.Native.Nat.{ℕ}
use native.Mathlib.Omega.{arith}
use lib.Dec.{eqb}
use borrow.Author.Tests.{eq-eqb}
use Rattle.base.specs.Options.{is_none}
use Rattle.base.proofs.Options.{none-some}
use Rattle.base.proofs.Tests.{by_test}
use Rattle.calls.specs.Replies.{delivered}
use Rattle.calls.specs.Calls.{Call, installs, loads, opens, delivers, withdraws, asks_verdict, install_number, load_number}
use Rattle.histories.specs.History.{rule_there, rule_in, open_number, places_in, looked_of, last_revision, standing, deliver_number, withdraw_number, answer_of}
use Rattle.histories.specs.Revisions.{Revisions}
use Rattle.histories.proofs.Conditions.{reply_law, delivered_law, accepted_exactly, refused_exactly}

-- an accepted delivery meets no condition
taken : (h : List Call) (p v n : ℕ) (w : List ℕ) → answer_of h (delivers p v w) ≡ delivered n → deliver_number h p v w ≡ none
taken h p v n w e = ((delivered_law (deliver_number h p v w) (looked_of (rule_in h) p w) n).0 e).0

-- and is the last, which stands
kept : (h : List Call) (p v n : ℕ) (w : List ℕ) → answer_of h (delivers p v w) ≡ delivered n
    → (standing (delivers p v w ∷ h) p ≡ some w) × (last_revision (delivers p v w ∷ h) p ≡ some v)
unfolding standing last_revision
kept h p v n w e = let number = taken h p v n w e in (rw (eq-eqb p p refl, number), rw (eq-eqb p p refl, number))

nothing_stands : (h : List Call) (p : ℕ) → last_revision h p ≡ none → standing h p ≡ none
unfolding standing last_revision
nothing_stands [] p e = refl
nothing_stands (installs r ∷ h) p e =
    by_test (is_none (install_number r)) (λ t. rw t) (λ t. rw t (nothing_stands h p (rw t at e)))
nothing_stands (loads f ∷ h) p e =
    by_test (is_none (load_number f)) (λ t. rw t) (λ t. rw t (nothing_stands h p (rw t at e)))
nothing_stands (opens n ∷ h) p e =
    by_test (is_none (open_number h n)) (λ t. rw t) (λ t. rw t (nothing_stands h p (rw t at e)))
nothing_stands (delivers q v w ∷ h) p e =
    by_test (eqb q p && is_none (deliver_number h q v w))
    (λ t. none-some (rw t at e) refl)
    (λ t. rw t (nothing_stands h p (rw t at e)))
nothing_stands (withdraws q ∷ h) p e =
    by_test (eqb q p && is_none (withdraw_number h q)) (λ t. rw t) (λ t. rw t (nothing_stands h p e))
nothing_stands (asks_verdict ∷ h) p e = nothing_stands h p e

pub revisions : (h : List Call) → Revisions h
unfolding rule_there places_in last_revision
revisions h = record {
  late = λ p q v u n w x e less short own.
      let there = (((accepted_exactly h).delivery p v w n).0 e).1 in
      ((refused_exactly (withdraws q ∷ delivers p v w ∷ h)).deliver_22 p u x).1 (there, short, own, v, (kept h p v n w e).1, less);
  anew = λ n p v w e below short own.
      let number : open_number h n ≡ none = (reply_law (open_number h n)).0 e in
      let places : places_in (opens n ∷ h) ≡ n = rw number in
      let forgets : last_revision (opens n ∷ h) p ≡ none = rw number in
      ((accepted_exactly (opens n ∷ h)).delivery p v w (looked_of (rule_in h) p w)).1 (
        omega (arith, places, below),
        omega (arith, places, below),
        short,
        own,
        (λ last is. none-some forgets is),
        refl,
      );
  replaces = λ p v n w e. kept h p v n w e;
  never = nothing_stands h;
}

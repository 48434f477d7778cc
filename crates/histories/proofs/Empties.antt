-- The number of empty places call by call, as specs/Empties.antt says. A call at a place changes
-- one term of the sum. Assumes nothing.
use mathlib.Core.Path.{◌≡◌, refl, sym, ap, ◌∙◌}
use mathlib.Core.Logic.{⊎_elim}
use mathlib.Core.Bool.{true, false, cond}
use mathlib.Core.List.{List, ◌∷◌}
use mathlib.Core.Option.{Option, none}
use Prim.Native.Nat.{ℕ, zero, suc, ◌+◌, ◌<◌}
use native.Mathlib.Nat.{eq-or-lt_of_le, le_of_suc-le-suc}
use native.Mathlib.Omega.{arith}
use lib.Dec.{eqb}
use borrow.Author.Tests.{leb-false}
use Rattle.base.specs.Options.{is_none}
use Rattle.base.specs.Totals.{total}
use Rattle.base.proofs.Conditions.{none_law}
use Rattle.base.proofs.Options.{is_some_lem, none-some}
use Rattle.base.proofs.Totals.{total_same}
use Rattle.calls.specs.Calls.{Call, installs, loads, opens, delivers, withdraws, deliver_conditions, withdraw_conditions}
use Rattle.histories.specs.History.{rule_in, places_in, not_greater, last_revision, standing, empties_in}
use Rattle.histories.specs.Last.{Accepted}
use Rattle.histories.specs.Empties.{EmptyPlaces}
use Rattle.histories.proofs.Last.{deliver_is, withdraw_is, places_set, places_kept, chunk_set, chunk_kept}

-- ---- one term changed
changed : (f g : ℕ → ℕ) (n p : ℕ) → p < n → ((q : ℕ) → (q ≡ p → ⊥) → f q ≡ g q) → total f n + g p ≡ total g n + f p
unfolding total
changed f g zero p l same = absurd (omega arith)
changed f g (suc n) p l same =
    ⊎_elim
    (λ e.
    let below : total f n ≡ total g n = total_same f g n (λ q b. same q (λ z. absurd (omega (arith, z, e, b)))) in
    let here : f p ≡ f n = ap f e in
    let there : g p ≡ g n = ap g e in
    omega arith)
    (λ b.
    let before = changed f g n p b same in
    let last : f n ≡ g n = same n (λ z. absurd (omega (arith, z, b))) in
    omega arith)
    (eq-or-lt_of_le (le_of_suc-le-suc l))

-- ---- the places at which nothing stands, of those below n
abbrev pub empty_at : (ℕ → Option (List ℕ)) → ℕ → ℕ
empty_at at n = total (λ p. cond (is_none (at p)) 1 0) n

pub all-empty : (at : ℕ → Option (List ℕ)) (n : ℕ) → ((p : ℕ) → at p ≡ none) → empty_at at n ≡ n
unfolding total
all-empty at zero empty = refl
all-empty at (suc n) empty = rw (empty n) (omega (arith, all-empty at n empty))

pub same_empties : (at at' : ℕ → Option (List ℕ)) (m n : ℕ) → ((p : ℕ) → at p ≡ at' p) → m ≡ n → empty_at at m ≡ empty_at at' n
same_empties at at' m n same e = rw e (total_same (λ p. cond (is_none (at p)) 1 0) (λ p. cond (is_none (at' p)) 1 0) n (λ p l. rw (same p)))

-- what stands at p is another, below n, and at the others the same
module _ (at at' : ℕ → Option (List ℕ)) (n p : ℕ) (l : p < n) (others : (q : ℕ) → (q ≡ p → ⊥) → at q ≡ at' q) where
  one_changed : empty_at at n + cond (is_none (at' p)) 1 0 ≡ empty_at at' n + cond (is_none (at p)) 1 0
  one_changed = changed (λ q. cond (is_none (at q)) 1 0) (λ q. cond (is_none (at' q)) 1 0) n p l (λ q ne. rw (others q ne))

  pub one_filled : is_none (at p) ≡ false → is_none (at' p) ≡ true → empty_at at n + 1 ≡ empty_at at' n
  one_filled a b = let e = rw (a, b) at one_changed in omega arith

  pub one_replaced : is_none (at p) ≡ false → is_none (at' p) ≡ false → empty_at at n ≡ empty_at at' n
  one_replaced a b = let e = rw (a, b) at one_changed in omega arith

  pub one_emptied : is_none (at p) ≡ true → is_none (at' p) ≡ false → empty_at at n ≡ empty_at at' n + 1
  one_emptied a b = let e = rw (a, b) at one_changed in omega arith

-- ---- the judge's
module _ (h : List Call) where
  kept_number : (c : Call) → (Accepted h c → ⊥) → empties_in (c ∷ h) ≡ empties_in h
  kept_number c n =
      same_empties (standing (c ∷ h)) (standing h) (places_in (c ∷ h)) (places_in h) (λ p. chunk_kept p h c (λ k a. n a))
      (places_kept h c (λ k a. n a))

  -- no board is left
  removed : (c : Call) → places_in (c ∷ h) ≡ 0 → empties_in (c ∷ h) ≡ 0
  unfolding total
  removed c e = rw e

  opened_number : (n : ℕ) → Accepted h (opens n) → empties_in (opens n ∷ h) ≡ n
  opened_number n a =
      all-empty (standing (opens n ∷ h)) (places_in (opens n ∷ h)) (λ p. chunk_set p h (opens n) tt a) ∙ places_set h (opens n) tt a

  module _ (p v : ℕ) (w : List ℕ) (a : Accepted h (delivers p v w)) where
    there : p < places_in h
    there =
        let e = sym (deliver_is h p v w) ∙ a in
        leb-false (places_in h) p
        ((none_law (deliver_conditions (eqb (places_in h) 0) (places_in h) p w (rule_in h).k (not_greater v (last_revision h p)))).0 e).1.0

    now_stands : is_none (standing (delivers p v w ∷ h) p) ≡ false
    now_stands = ap is_none (chunk_set p h (delivers p v w) refl a)

    as_before : (q : ℕ) → (q ≡ p → ⊥) → standing (delivers p v w ∷ h) q ≡ standing h q
    as_before q ne = chunk_kept q h (delivers p v w) (λ k _. ne (sym k))

    filled_number : standing h p ≡ none → empties_in (delivers p v w ∷ h) + 1 ≡ empties_in h
    unfolding places_in
    filled_number e =
        one_filled (standing (delivers p v w ∷ h)) (standing h) (places_in h) p there as_before now_stands (ap is_none e)

    replaced_number : (standing h p ≡ none → ⊥) → empties_in (delivers p v w ∷ h) ≡ empties_in h
    unfolding places_in
    replaced_number n =
        one_replaced (standing (delivers p v w ∷ h)) (standing h) (places_in h) p there as_before now_stands ((is_some_lem (standing h p)).1 n)

  withdrawn_number : (p : ℕ) → Accepted h (withdraws p) → empties_in (withdraws p ∷ h) ≡ empties_in h + 1
  unfolding places_in
  withdrawn_number p a =
      let e = sym (withdraw_is h p) ∙ a in
      let passes = (none_law (withdraw_conditions (eqb (places_in h) 0) (places_in h) p (is_none (standing h p)))).0 e in
      one_emptied (standing (withdraws p ∷ h)) (standing h) (places_in h) p (leb-false (places_in h) p passes.1.0)
      (λ q ne. chunk_kept q h (withdraws p) (λ k _. ne (sym k)))
      (ap is_none (chunk_set p h (withdraws p) refl a))
      passes.1.1.0

pub empty_places_lem : EmptyPlaces empties_in
unfolding places_in total standing
empty_places_lem = record {
  at_first = refl;
  opened = opened_number;
  filled = filled_number;
  replaced = replaced_number;
  withdrawn = withdrawn_number;
  loaded = λ h f a. removed h (loads f) (places_set h (loads f) tt a);
  installed = λ h r a. removed h (installs r) (places_set h (installs r) tt a);
  asked = λ h. refl;
  refused = λ h c x e. kept_number h c (λ a. none-some a e);
}

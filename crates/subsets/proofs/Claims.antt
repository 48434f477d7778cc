-- The one proof of all that specs/Claims.antt claims, from the claims of numbering. What is left to
-- show: the empty set leads to itself, and in a well-formed rule a text that leads to a non-empty
-- set has symbols below k. Assumes nothing.
use mathlib.Core.Path.{◌≡◌, sym, ap, subst, ◌∙◌}
use mathlib.Core.Logic.{◌↔◌, inr}
use mathlib.Core.List.{List, [], ◌∷◌}
use Prim.Native.Nat.{ℕ, ◌≤◌, ◌<◌, min}
use native.Mathlib.Omega.{arith}
use lib.Arith.{lt-one}
use lib.Dec.{ltb, lit<}
use lib.ListN.{length, get_or}
use borrow.Author.Tests.{eq-eqb, ne_eqb, eqb-true, eqb-false, lt-ltb, ltb-true, ltb-false}
use Rattle.base.proofs.Tests.{by_test}
use Rattle.masks.specs.Masks.{single}
use Rattle.masks.proofs.Laws.{union_lt, union-empty}
use Rattle.automaton.specs.declared.Rule.{Rule}
use Rattle.automaton.specs.Rules.{target_mask, WellFormed}
use Rattle.automaton.specs.Successor.{successor, after}
use Rattle.automaton.proofs.Laws.{after_empty}
use Rattle.numbering.specs.Numbering.{Walk}
use Rattle.numbering.specs.Texts.{Symbols, none, more}
use Rattle.numbering.specs.Order.{InOrder}
use Rattle.numbering.specs.Claims as keys
use Rattle.numbering.specs.Claims.{Distinct}
use Rattle.numbering.proofs.InOrder.{in_order_by}
use Rattle.numbering.proofs.Claims as numbering
use Rattle.subsets.specs.Sets.{set_walk, sets_of, too_many, next_set}
use Rattle.subsets.specs.Claims.{Leads, Reach, sets, next, over, fits, Claims}

sinks : (ts : List ℕ) (k : ℕ) → keys.Sinks (set_walk ts k)
sinks ts k m s _ e =
    let z : m ≡ 0 = eqb-true m 0 e in
    eq-eqb (successor ts m s) 0 (ap (λ (x : ℕ). successor ts x s) z ∙ union-empty (λ q. target_mask ts q s) 32)

module _ (r : Rule) (good : WellFormed r) where
  abbrev walk : Walk
  walk = set_walk r.targets r.k

  abbrev n : ℕ
  n = min r.n 32

  states : n ≡ r.n
  states = omega (arith, good.states)

  successor_outside : (m s : ℕ) → r.k ≤ s → successor r.targets m s ≡ 0
  successor_outside m s h = lt-one (union_lt (λ q. target_mask r.targets q s) m 0 32 (λ q l. rw (good.zero_outside q s l (inr h)) (lit< tt)))

  symbols_of_lem : (m : ℕ) (w : List ℕ) → (after r.targets m w ≡ 0 → ⊥) → Symbols r.k w
  symbols_of_lem m [] ne = none
  symbols_of_lem m (s ∷ w) ne =
      more
      (by_test (ltb s r.k) (ltb-true s r.k)
      (λ t.
      absurd
      (ne (ap (λ (x : ℕ). after r.targets x w) (successor_outside m s (ltb-false s r.k t)) ∙ after_empty r.targets w))))
      (symbols_of_lem (successor r.targets m s) w ne)

  -- ---- what is reached
  there : {m : ℕ} → Reach r m → keys.Reach walk single n m
  there {m} h = record {
    counts = ne_eqb m 0 h.some_state;
    from = h.state;
    below = omega (arith, h.below, states);
    text = h.text;
    symbols = symbols_of_lem (single h.state) h.text (λ z. h.some_state (sym h.leads ∙ z));
    leads = h.leads;
  }

  back : {m : ℕ} → keys.Reach walk single n m → Reach r m
  back {m} h = record {
    some_state = eqb-false m 0 h.counts;
    state = h.from;
    below = omega (arith, h.below, states);
    text = h.text;
    leads = h.leads;
  }

  -- ---- the claims
  most : fits r → length (sets r) ≤ 512
  unfolding too_many
  most e = ltb-false 512 (length (sets r)) e

  sound : (i : ℕ) → i < length (sets r) → Reach r (get_or (sets r) i 0)
  unfolding sets_of
  sound i b = back ((numbering.claims).sound walk single n i b)

  once : Distinct (sets r)
  unfolding sets_of
  once = (numbering.claims).once walk single n

  complete : fits r → (m : ℕ) → Reach r m → (i : ℕ) × (i < length (sets r)) × (get_or (sets r) i 0 ≡ m)
  unfolding sets_of
  complete e m h = (numbering.claims).complete walk single n (sinks r.targets r.k) (most e) m (there h)

  cell : fits r → (i s : ℕ) → i < length (sets r) → s < r.k
      → (successor r.targets (get_or (sets r) i 0) s ≡ 0 → next r i s ≡ 512)
      × ((successor r.targets (get_or (sets r) i 0) s ≡ 0 → ⊥) → (next r i s < length (sets r)) × (get_or (sets r) (next r i s) 0 ≡ successor r.targets (get_or (sets r) i 0) s))
  unfolding sets_of next_set
  cell e i s b c =
      let h = (numbering.claims).cell walk single n (most e) i s b c in
      let m : ℕ = successor r.targets (get_or (sets r) i 0) s in
      ((λ z. h.0 (eq-eqb m 0 z)), λ ne. h.1 (ne_eqb m 0 ne))

  nine : over r ↔ (l : List ℕ) × (length l ≡ 513) × Distinct l × ((i : ℕ) → i < 513 → Reach r (get_or l i 0))
  unfolding too_many sets_of
  nine =
      let o = (numbering.claims).over walk single n (sinks r.targets r.k) in (
        (λ e. let l = o.0 (ltb-true 512 (length (sets r)) e) in (l.0, l.1, l.2, λ i b. back (l.3 i b))),
        λ l. lt-ltb 512 (length (sets r)) (o.1 (l.0, l.1, l.2, λ i b. there (l.3 i b))),
      )

  ordered : fits r → InOrder r.n (Leads r) (λ i. get_or (sets r) i 0) (length (sets r))
  unfolding sets_of
  ordered e =
      subst (λ (x : ℕ). InOrder x (Leads r) (λ i. get_or (sets r) i 0) (length (sets r))) states
      (in_order_by n (λ i. get_or (sets r) i 0) (λ i. get_or (sets r) i 0) (length (sets r))
      (λ i q w b l. ((λ x. x.1), λ e. (symbols_of_lem (single q) w (λ z. (sound i b).some_state (sym e ∙ z)), e)))
      ((numbering.claims).in_order walk single n (sinks r.targets r.k) (most e)))

pub claims : Claims
claims = record { sound = sound; once = once; complete = complete; cell = cell; nine = nine; ordered = ordered }

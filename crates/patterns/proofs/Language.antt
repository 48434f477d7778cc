-- The rule of a pattern's positions accepts exactly the pattern's texts, and is well formed. A run
-- from a position has a label that may follow it (`residual_of`), and what may follow it is the label
-- of a run to a final state (`run_of`). Assumes at most 31 letters, each below 16.
use mathlib.Core.Path.{◌≡◌, refl, sym, ap, ◌∙◌, subst}
use mathlib.Core.Logic.{◌↔◌, ◌⊎◌, inl, inr, ⊎_elim}
use mathlib.Core.Bool.{true, cond}
use mathlib.Core.List.{List, [], ◌∷◌}
use Prim.Native.Nat.{ℕ, zero, suc, ◌+◌, ◌*◌, ◌/◌, ◌%◌, ◌≤◌, ◌<◌}
use native.Mathlib.Omega.{arith}
use lib.ListN.{get_or-eq_default}
use lib.Bits.{bit_and}
use lib.Dec.{ltb, lit<}
use borrow.Author.Tests.{lt-ltb, ltb-true, ltb-false}
use Rattle.masks.specs.Masks.{◌∈◌, single}
use Rattle.base.proofs.Tests.{zero_one, by_test}
use Rattle.masks.proofs.Laws.{or_cases, or_left, or_right, and_members, single_law, below_of, empty_mask, no_member}
use Rattle.base.proofs.Lists.{cell_of_lem, length_list_from}
use Rattle.automaton.specs.Automaton.{Arc, Run, stay, move, Accepts}
use Rattle.automaton.specs.Rules.{target_mask, automaton_of, WellFormed}
use Rattle.patterns.specs.Patterns.{Pattern, empty, letter, then, or, star, Matches, count}
use Rattle.patterns.specs.Positions.{nullable, last, follow, positions_of, next_states, position_rule}
use Rattle.patterns.proofs.Theory.{Position, letter_at, First, Last, Follow, Residual, Enters, Begins, GoesOn, began_empty, began_at, ended, went_on, begins, goes_on}
use Rattle.patterns.proofs.Numbers as numbers
use Rattle.patterns.proofs.Numbers.{number, Place, above, within, same_place}

-- each letter is a symbol
abbrev pub Lettered : Pattern → Type 0
Lettered empty = Unit {0}
Lettered (letter s) = s < 16
Lettered (then p q) = Lettered p × Lettered q
Lettered (or p q) = Lettered p × Lettered q
Lettered (star p) = Lettered p

lettered_at : (p : Pattern) → Lettered p → (x : Position p) → letter_at p x < 16
lettered_at empty h x = absurd x
lettered_at (letter s) h x = h
lettered_at (then p q) h (inl x) = lettered_at p h.0 x
lettered_at (then p q) h (inr y) = lettered_at q h.1 y
lettered_at (or p q) h (inl x) = lettered_at p h.0 x
lettered_at (or p q) h (inr y) = lettered_at q h.1 y
lettered_at (star p) h x = lettered_at p h x

pub cons_not_nil : {a : ℕ} {w : List ℕ} → a ∷ w ≡ [] → ⊥
cons_not_nil e = zero_one cc

pub rest-is : {a b : ℕ} {v w : List ℕ} → a ∷ v ≡ b ∷ w → v ≡ w
rest-is e = cc

-- ---- the table
module _ (p : Pattern) where
  cell : (q s : ℕ) → q < 32 → s < 16 → target_mask (position_rule p).targets q s ≡ bit_and (next_states p q) (positions_of p 0 s)
  cell q s h l =
      let row : (q * 16 + s) / 16 ≡ q = omega arith in
      let column : (q * 16 + s) % 16 ≡ s = omega arith in
      rw (lt-ltb s 16 l)
      (cell_of_lem 512 (λ c. bit_and (next_states p (c / 16)) (positions_of p 0 (c % 16))) (q * 16 + s) 0 (omega arith)
      ∙ ap (λ (x : ℕ). bit_and (next_states p x) (positions_of p 0 ((q * 16 + s) % 16))) row
      ∙ ap (λ (x : ℕ). bit_and (next_states p q) (positions_of p 0 x)) column)

  after_place : (q : ℕ) → 0 < q → next_states p q ≡ follow p 0 q
  after_place zero h = absurd (let l = h in omega arith)
  after_place (suc i) h = refl

  -- what a cell's member is
  pub target_of : (q s r : ℕ) → q < 32 → s < 16 → r ∈ target_mask (position_rule p).targets q s → (r ∈ next_states p q) × (r ∈ positions_of p 0 s)
  target_of q s r h l e = (and_members (next_states p q) (positions_of p 0 s) r).0 (subst (λ (m : ℕ). r ∈ m) (cell q s h l) e)

  to_target : (q s r : ℕ) → q < 32 → s < 16 → r ∈ next_states p q → r ∈ positions_of p 0 s → r ∈ target_mask (position_rule p).targets q s
  to_target q s r h l e f = subst (λ (m : ℕ). r ∈ m) (sym (cell q s h l)) ((and_members (next_states p q) (positions_of p 0 s) r).1 (e, f))

  final_of : (q : ℕ) → q ∈ (position_rule p).finals → ((nullable p ≡ true) × (q ≡ 0)) ⊎ Place p 0 q (Last p)
  final_of q e =
      ⊎_elim
      (λ h. let c = numbers.cond_of (nullable p) (single 0) q h in inl (c.0, (single_law 0 q).0 c.1))
      (λ h. inr (numbers.last_of p 0 q h))
      (or_cases (cond (nullable p) (single 0) 0) (last p 0) q e)

module _ (p : Pattern) (few : count p ≤ 31) (small : Lettered p) where
  -- a state's successors are by its follow set, and by a letter
  pub arc_to_lem : (q : ℕ) (y : Position p) → q < suc (count p) → number p 0 y ∈ next_states p q → Arc (automaton_of (position_rule p)) q (letter_at p y) (number p 0 y)
  arc_to_lem q y h e = record {
    source = h;
    symbol = lettered_at p small y;
    target = omega (arith, within p 0 y);
    there = to_target p q (letter_at p y) (number p 0 y) (omega arith) (lettered_at p small y) e (numbers.in_positions p 0 y);
  }

  -- the letter at a target
  letter_of_lem : {q s r : ℕ} → Arc (automaton_of (position_rule p)) q s r → (y : Position p) → number p 0 y ≡ r → letter_at p y ≡ s
  letter_of_lem {q} {s} {r} j y e =
      let m = numbers.positions_of_lem p 0 s r (target_of p q s r (omega (arith, j.source)) j.symbol j.there).1 in
      ap (letter_at p) (same_place p 0 y m.at (e ∙ sym m.is)) ∙ m.holds

  after_of : {q s r : ℕ} → Arc (automaton_of (position_rule p)) q s r → r ∈ next_states p q
  after_of {q} {s} {r} j = (target_of p q s r (omega (arith, j.source)) j.symbol j.there).0

  last_at_lem : (x : Position p) (q : ℕ) → number p 0 x ≡ q → ((nullable p ≡ true) × (q ≡ 0)) ⊎ Place p 0 q (Last p) → Last p x
  last_at_lem x q e (inl h) = absurd (omega (arith, above p 0 x, h.1))
  last_at_lem x q e (inr h) = subst (Last p) (same_place p 0 h.at x (h.is ∙ sym e)) h.holds

  follow_at : (x : Position p) (q r : ℕ) → number p 0 x ≡ q → r ∈ next_states p q → (y : Position p) × (number p 0 y ≡ r) × Follow p x y
  follow_at x q r e h =
      let t = numbers.follow_of_lem p 0 q r (subst (λ (m : ℕ). r ∈ m) (after_place p q (omega (arith, above p 0 x))) h) in
      (t.target, t.to, subst (λ (z : Position p). Follow p z t.target) (same_place p 0 t.source x (t.from ∙ sym e)) t.follows)

  -- ---- from runs to texts
  residual_of : (x : Position p) {q t : ℕ} {w : List ℕ} → number p 0 x ≡ q → Run (automaton_of (position_rule p)) q w t → t ∈ (position_rule p).finals → Residual p x w
  residual_of x e (stay {q = q} l) f = ended p x (last_at_lem x q e (final_of p q f))
  residual_of x e (move {q = q} {s = s} {r = r} {w = w} j u) f =
      let t = follow_at x q r e (after_of j) in
      subst (λ (c : ℕ). Residual p x (c ∷ w)) (letter_of_lem j t.0 t.1) (went_on p x t.0 w t.2 (residual_of t.0 t.1 u f))

  empty_text : ((nullable p ≡ true) × ◌≡◌ {A = ℕ} 0 0) ⊎ Place p 0 0 (Last p) → Matches p []
  empty_text (inl h) = began_empty p h.0
  empty_text (inr h) = absurd (omega (arith, above p 0 h.at, h.is))

  text-of : {q t : ℕ} {w : List ℕ} → q ≡ 0 → Run (automaton_of (position_rule p)) q w t → t ∈ (position_rule p).finals → Matches p w
  text-of e (stay {q = q} l) f = empty_text (final_of p 0 (subst (λ (i : ℕ). i ∈ (position_rule p).finals) e f))
  text-of e (move {q = q} {s = s} {r = r} {w = w} j u) f =
      let t = numbers.first_of p 0 r (subst (λ (i : ℕ). r ∈ next_states p i) e (after_of j)) in
      subst (λ (c : ℕ). Matches p (c ∷ w)) (letter_of_lem j t.at t.is) (began_at p t.at w t.holds (residual_of t.at t.is u f))

  -- ---- from texts to runs
  Ends : ℕ → List ℕ → Type 0
  Ends q w = (t : ℕ) × Run (automaton_of (position_rule p)) q w t × (t ∈ (position_rule p).finals)

  -- a letter, and a run from it
  entering : (q : ℕ) (w : List ℕ) (P : Position p → Type 0) → q < suc (count p) → ((y : Position p) → P y → number p 0 y ∈ next_states p q)
      → (t : Enters p P w) → Ends (number p 0 t.at) t.rest → Ends q w
  unfolding Ends
  entering q w P h f t r =
      subst (λ (l : List ℕ). Ends q l) (sym t.shape) (r.0, move (arc_to_lem q t.at h (f t.at t.allowed)) r.1, r.2)

  here : (x : Position p) → Last p x → Ends (number p 0 x) []
  unfolding Ends
  here x l = (
    number p 0 x,
    stay {q = number p 0 x} (omega (arith, within p 0 x)),
    or_right (cond (nullable p) (single 0) 0) (last p 0) (number p 0 x) (numbers.in_last p 0 x l),
  )

  after_in : (x y : Position p) → Follow p x y → number p 0 y ∈ next_states p (number p 0 x)
  after_in x y f = subst (λ (m : ℕ). number p 0 y ∈ m) (sym (after_place p (number p 0 x) (above p 0 x))) (numbers.in_follow p 0 x y f)

  run-nil : (x : Position p) → GoesOn p x [] → Ends (number p 0 x) []
  run-nil x (inl h) = here x h.0
  run-nil x (inr t) = absurd (cons_not_nil (sym t.shape))

  run-cons : (x : Position p) (s : ℕ) (w : List ℕ) → ((y : Position p) → Residual p y w → Ends (number p 0 y) w)
      → GoesOn p x (s ∷ w) → Ends (number p 0 x) (s ∷ w)
  run-cons x s w f (inl h) = absurd (cons_not_nil h.1)
  run-cons x s w f (inr t) =
      let e : w ≡ t.rest = rest-is t.shape in
      entering (number p 0 x) (s ∷ w) (Follow p x) (omega (arith, within p 0 x)) (after_in x) t
      (subst (Ends (number p 0 t.at)) e (f t.at (subst (Residual p t.at) (sym e) t.residual)))

  run_of : (x : Position p) (w : List ℕ) → Residual p x w → Ends (number p 0 x) w
  run_of x [] r = run-nil x (goes_on p x [] r)
  run_of x (s ∷ w) r = run-cons x s w (λ y t. run_of y w t) (goes_on p x (s ∷ w) r)

  start_of : (w : List ℕ) → Begins p w → Ends 0 w
  unfolding Ends
  start_of w (inl h) =
      subst (λ (l : List ℕ). Ends 0 l) (sym h.1)
      (0, stay {q = 0} (omega arith), or_left (cond (nullable p) (single 0) 0) (last p 0) 0 (numbers.in_cond (nullable p) (single 0) 0 h.0 ((single_law 0 0).1 refl)))
  start_of w (inr t) =
      entering 0 w (First p) (omega arith) (λ y f. numbers.in_first_lem p 0 y f) t (run_of t.at t.rest t.residual)

  pub language : (w : List ℕ) → Accepts (automaton_of (position_rule p)) w ↔ Matches p w
  unfolding Ends
  language w = (
    (λ a. text-of ((single_law 0 a.from).0 a.begins) a.run a.ends),
    λ m. let r = start_of w (begins p w m) in record { from = 0; to = r.0; begins = (single_law 0 0).1 refl; ends = r.2; run = r.1 },
  )

-- ---- a well-formed rule
module _ (p : Pattern) (few : count p ≤ 31) where
  pub after_above : (q r : ℕ) → r ∈ next_states p q → (0 < r) × (r < suc (count p)) × (q < suc (count p))
  after_above zero r h = let t = numbers.first_of p 0 r h in omega (arith, t.is, above p 0 t.at, within p 0 t.at)
  after_above (suc i) r h =
      let t = numbers.follow_of_lem p 0 (suc i) r h in
      omega (arith, t.from, t.to, above p 0 t.target, within p 0 t.target, within p 0 t.source)

  -- what a member of any cell is
  pub member_of_cell : (q s r : ℕ) → r ∈ target_mask (position_rule p).targets q s → (q < suc (count p)) × (s < 16) × (r < suc (count p))
  member_of_cell q s r e = by_test (ltb s 16) (λ h. in_column (ltb-true s 16 h)) (λ h. absurd (no_member r (rw h at e)))
    where
      in_row : s < 16 → q < 32 → (q < suc (count p)) × (s < 16) × (r < suc (count p))
      in_row l h = let a = after_above q r (target_of p q s r h l e).0 in (a.2, l, a.1)

      past : s < 16 → 32 ≤ q → ⊥
      past l h =
          no_member r
          (subst (λ (m : ℕ). r ∈ m)
          (rw (lt-ltb s 16 l)
          (get_or-eq_default (position_rule p).targets 0
          (rw (length_list_from 0 512 (λ c. bit_and (next_states p (c / 16)) (positions_of p 0 (c % 16)))) (omega arith))))
          e)

      in_column : s < 16 → (q < suc (count p)) × (s < 16) × (r < suc (count p))
      in_column l = by_test (ltb q 32) (λ h. in_row l (ltb-true q 32 h)) (λ h. absurd (past l (ltb-false q 32 h)))

  final_below : (q : ℕ) → ((nullable p ≡ true) × (q ≡ 0)) ⊎ Place p 0 q (Last p) → q < suc (count p)
  final_below q (inl h) = omega (arith, h.1)
  final_below q (inr h) = omega (arith, h.is, within p 0 h.at)

  pub well_formed : WellFormed (position_rule p)
  well_formed = record {
    states = omega arith;
    symbols = (lit< tt, lit< tt);
    initials_below = below_of (suc (count p)) (single 0) (λ q e. omega (arith, (single_law 0 q).0 e));
    finals_below = below_of (suc (count p)) (position_rule p).finals (λ q e. final_below q (final_of p q e));
    targets_below = λ q s _. below_of (suc (count p)) (target_mask (position_rule p).targets q s) (λ r e. (member_of_cell q s r e).2);
    zero_outside = λ q s _ h.
        empty_mask (target_mask (position_rule p).targets q s)
        (λ r e. let m = member_of_cell q s r e in ⊎_elim (λ l. omega (arith, m.0)) (λ l. omega (arith, m.1)) h);
  }

-- The arcs and the final states of the positions' rule, exactly, by letters and by texts. Assumes
-- at most 31 letters, each below 16, where the arcs are asked for.
use mathlib.Core.Path.{◌≡◌, refl, sym, ◌∙◌, subst}
use mathlib.Core.Logic.{◌↔◌, ◌⊎◌, inl, inr, ⊎_elim}
use mathlib.Core.Bool.{true, cond}
use mathlib.Core.List.{[]}
use Prim.Native.Nat.{ℕ, zero, suc, ◌+◌}
use native.Mathlib.Omega.{arith}
use Rattle.masks.specs.Masks.{◌∈◌, single}
use Rattle.masks.proofs.Laws.{or_cases, or_left, or_right, single_law}
use Rattle.automaton.specs.Automaton.{Arc}
use Rattle.automaton.specs.Rules.{automaton_of}
use Rattle.patterns.specs.Patterns.{Pattern, Matches}
use Rattle.patterns.specs.Positions.{nullable, last, next_states, position_rule}
use Rattle.patterns.specs.Marked.{Begins, Ends, Comes}
use Rattle.patterns.specs.Claims.{Few, Letter}
use Rattle.patterns.proofs.Theory.{Position, letter_at, began_empty, begins}
use Rattle.patterns.proofs.Numbers.{number, above, first_of, follow_of_lem, positions_of_lem, in_cond, cond_of}
use Rattle.patterns.proofs.Language.{Lettered, cons_not_nil, target_of, arc_to_lem, after_above}
use Rattle.patterns.proofs.Marked.{first_law, last_law, follow_law}
use Rattle.patterns.proofs.Letters.{Numbered, numbered}

pub empty_text : (p : Pattern) → (nullable p ≡ true) ↔ Matches p []
empty_text p = (began_empty p, λ m. ⊎_elim (λ h. h.0) (λ e. absurd (cons_not_nil (sym e.shape))) (begins p [] m))

-- ---- letters
letter_at_lem : (p : Pattern) {i s : ℕ} → Numbered p 0 i s → Letter p i s
letter_at_lem p {s = s} n =
    let e : suc n.index ≡ suc (0 + n.index) = omega arith in
    subst (λ (i : ℕ). Letter p i s) (e ∙ sym n.is) (n.within, n.there)

letter_of_lem : (p : Pattern) (i : ℕ) (y : Position p) → number p 0 y ≡ i → Letter p i (letter_at p y)
letter_of_lem p i y e = letter_at_lem p (subst (λ (x : ℕ). Numbered p 0 x (letter_at p y)) e (numbered p 0 y))

one_letter : (p : Pattern) (i s t : ℕ) → Letter p i s → Letter p i t → s ≡ t
one_letter p zero s t a b = absurd a
one_letter p (suc j) s t a b = sym a.1 ∙ b.1

-- ---- arcs
pub arc_letter : (p : Pattern) → Few p → {q s i : ℕ} → Arc (automaton_of (position_rule p)) q s i → Letter p i s
arc_letter p few {q} {s} {i} a =
    let m = positions_of_lem p 0 s i (target_of p q s i (omega (arith, a.source)) a.symbol a.there).1 in
    subst (Letter p i) m.holds (letter_of_lem p i m.at m.is)

-- the states after a state, by texts
after_law : (p : Pattern) (q i : ℕ) → (i ∈ next_states p q) ↔ (((q ≡ 0) × Begins p i) ⊎ Comes p q i)
after_law p zero i = (
  (λ m. inl (refl, (first_law p i).0 m)),
  ⊎_elim (λ z. (first_law p i).1 z.1)
      (λ c. let t = follow_of_lem p 0 0 i ((follow_law p 0 i).1 c) in absurd (omega (arith, t.from, above p 0 t.source))),
)
after_law p (suc q) i = (
  (λ m. inr ((follow_law p (suc q) i).0 m)),
  ⊎_elim (λ z. absurd (omega (arith, z.0))) (λ c. (follow_law p (suc q) i).1 c),
)

place_of : (p : Pattern) (q i : ℕ) → i ∈ next_states p q → (y : Position p) × (number p 0 y ≡ i)
place_of p zero i m = let t = first_of p 0 i m in (t.at, t.is)
place_of p (suc q) i m = let t = follow_of_lem p 0 (suc q) i m in (t.target, t.to)

pub arc : (p : Pattern) → Few p → Lettered p → (q s i : ℕ)
    → Arc (automaton_of (position_rule p)) q s i ↔ (Letter p i s × (((q ≡ 0) × Begins p i) ⊎ Comes p q i))
arc p few small q s i = (
  (λ a. (arc_letter p few a, (after_law p q i).0 (target_of p q s i (omega (arith, a.source)) a.symbol a.there).0)),
  λ h.
      let m = (after_law p q i).1 h.1 in
      let y = place_of p q i m in
      let by : letter_at p y.0 ≡ s = one_letter p i (letter_at p y.0) s (letter_of_lem p i y.0 y.1) h.0 in
      let there = arc_to_lem p few small q y.0 (after_above p few q i m).2 (subst (λ (x : ℕ). x ∈ next_states p q) (sym y.1) m) in
      subst (λ (x : ℕ). Arc (automaton_of (position_rule p)) q x i) by
      (subst (λ (x : ℕ). Arc (automaton_of (position_rule p)) q (letter_at p y.0) x) y.1 there),
)

-- ---- final states
pub final : (p : Pattern) (q : ℕ) → (q ∈ (position_rule p).finals) ↔ (Ends p q ⊎ ((q ≡ 0) × Matches p []))
final p q = (
  (λ m.
      ⊎_elim
      (λ h. let c = cond_of (nullable p) (single 0) q h in inr ((single_law 0 q).0 c.1, (empty_text p).0 c.0))
      (λ h. inl ((last_law p q).0 h))
      (or_cases (cond (nullable p) (single 0) 0) (last p 0) q m)),
  ⊎_elim
      (λ e. or_right (cond (nullable p) (single 0) 0) (last p 0) q ((last_law p q).1 e))
      (λ z. or_left (cond (nullable p) (single 0) 0) (last p 0) q
      (in_cond (nullable p) (single 0) q ((empty_text p).1 z.1) ((single_law 0 q).1 z.0))),
)

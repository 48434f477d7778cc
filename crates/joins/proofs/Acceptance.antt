-- Acceptance from a set of states: a final state is in the successor of the set by a text exactly
-- where an accepting run over the text starts in a member. And texts that are joined. Assumes a
-- well-formed rule.
use mathlib.Core.Path.{◌≡◌, refl, subst}
use mathlib.Core.Logic.{◌↔◌}
use mathlib.Core.Bool.{true}
use mathlib.Core.List.{List, [], ◌∷◌, ◌++◌, flatten}
use Prim.Native.Nat.{ℕ, zero, suc, ◌^◌, ◌<◌}
use lib.ListN.{drop}
use lib.Pow.{pow-lt}
use Rattle.masks.specs.Masks.{◌∈◌, single, shares}
use Rattle.masks.proofs.Laws.{single_law, shares_law}
use Rattle.automaton.specs.declared.Rule.{Rule}
use Rattle.automaton.specs.Rules.{automaton_of, WellFormed}
use Rattle.automaton.specs.Successor.{after}
use Rattle.automaton.proofs.Laws.{after_law}
use Rattle.automaton.specs.Automaton.{Text}
use Rattle.delegates.specs.Alike.{AcceptsFrom}
use Rattle.joins.specs.Claims.{Texts}

-- the set m accepts the text w
abbrev pub Accepting : Rule → ℕ → List ℕ → Type 0
Accepting r m w = shares (after r.targets m w) r.finals ≡ true

module _ (r : Rule) (good : WellFormed r) where
  pub accepting_law : (m : ℕ) (w : List ℕ) → m < 2 ^ r.n → Accepting r m w ↔ (q : ℕ) × (q ∈ m) × AcceptsFrom (automaton_of r) q w
  accepting_law m w h = (
    (λ e.
        let u = (shares_law (after r.targets m w) r.finals).0 e in
        let t = (after_law r good m u.0 w h).0 u.1 in
        (t.from, t.member, record { to = u.0; ends = u.2; run = t.run })),
    λ t.
        (shares_law (after r.targets m w) r.finals).1
        (t.2.to, (after_law r good m t.2.to w h).1 (record { from = t.0; member = t.1; run = t.2.run }), t.2.ends),
  )

  pub accepting_single : (q : ℕ) (w : List ℕ) → q < r.n → Accepting r (single q) w ↔ AcceptsFrom (automaton_of r) q w
  accepting_single q w h = (
    (λ e.
        let u = (accepting_law (single q) w (pow-lt h)).0 e in
        subst (λ (p : ℕ). AcceptsFrom (automaton_of r) p w) ((single_law q u.0).0 u.1) u.2),
    λ t. (accepting_law (single q) w (pow-lt h)).1 (q, (single_law q q).1 refl, t),
  )

-- ---- texts that are joined
module _ (k : ℕ) where
  text_append : (v w : List ℕ) → Text k v → Text k w → Text k (v ++ w)
  text_append [] w t u = u
  text_append (s ∷ v) w t u = (t.0, text_append v w t.1 u)

  pub text_flatten : (ws : List (List ℕ)) → Texts k ws → Text k (flatten ws)
  unfolding flatten
  text_flatten [] t = tt
  text_flatten (w ∷ ws) t = text_append w (flatten ws) t.0 (text_flatten ws t.1)

  pub texts_drop : (ws : List (List ℕ)) (p : ℕ) → Texts k ws → Texts k (drop p ws)
  texts_drop ws zero t = t
  texts_drop [] (suc p) t = t
  texts_drop (w ∷ ws) (suc p) t = texts_drop ws p t.1

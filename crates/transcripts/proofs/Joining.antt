-- C, member by member: what the join of the masks comes to is document 01's join of the end sets.
-- Assumes nothing.
use mathlib.Core.Path.{◌≡◌, refl, sym, subst}
use mathlib.Core.Logic.Iff
use mathlib.Core.Logic.{◌↔◌}
use mathlib.Core.Bool.{true}
use mathlib.Core.Option.{Option, none, some}
use Prim.Native.Nat.{ℕ, zero, suc, ◌≤◌, ◌<◌}
use native.Mathlib.Omega.{arith}
use Rattle.base.proofs.Options.{none-some}
use Rattle.masks.specs.Masks.{◌∈◌}
use Rattle.masks.proofs.Laws.{no_member, shares_law}
use Rattle.masks.proofs.Claims as masks
use Rattle.automaton.specs.declared.Rule.{Rule}
use Rattle.automaton.specs.Rules.{automaton_of}
use Rattle.delegates.specs.Alike.{Delegate, delegate_in, of_delegate}
use Rattle.delegates.specs.Claims.{starts_in}
use Rattle.joins.specs.Joining.{join_of, yes_of}
use Rattle.transcripts.specs.Standing.{Source, automaton_by}
use Rattle.transcripts.specs.Runs.{Joined}
use Rattle.transcripts.specs.Agreement.{value_of, SoundSource}
use Rattle.transcripts.proofs.Runs.{live_within, listed_law}
use Rattle.transcripts.proofs.Sources.{sound_rule, delegate_by, initial_by, final_by}

-- a member of the end set of the delegate, if there is one
of_delegate_lem : (f : ℕ → ℕ) (o : Option ℕ) (y : ℕ) → y ∈ of_delegate f o ↔ ((d : ℕ) × (o ≡ some d) × (y ∈ f d))
of_delegate_lem f none y = ((λ m. absurd (no_member y m)), λ x. none-some refl x.1)
of_delegate_lem f (some d) y = (
  (λ m. (d, refl, m)),
  λ x. let same : x.0 ≡ d = let z = x.1 in cc in subst (λ (z : ℕ). y ∈ f z) same x.2,
)

-- e has the end sets as masks, f those that are held
module _ (x : Source) (sound : SoundSource x) (e f : ℕ → ℕ → ℕ) (places : ℕ) (same : (p d : ℕ) → p < places → d < 32 → e p d ≡ f p d) where
  abbrev rule : Rule
  rule = value_of x

  abbrev listed : ℕ → Option ℕ
  listed q = delegate_in (starts_in rule).delegates q

  delegate_law : (q d : ℕ) → q < rule.n → (listed q ≡ some d) ↔ Delegate (automaton_by x) q (some d)
  delegate_law q d l =
      let s = sound_rule x sound in
      let by = delegate_by x sound q (some d) in
      Iff.trans (listed_law rule s.0 s.1 q d l) (by.1, by.0)

  members : (p : ℕ) → p ≤ places → (y : ℕ) → y ∈ join_of e listed rule.n rule.initials p ↔ Joined (automaton_by x) f p y
  unfolding join_of
  members zero l y = let i = initial_by x y in (i.1, i.0)
  members (suc p) l y =
      Iff.trans ((masks.claims).union_members (λ q. of_delegate (e p) (listed q)) (join_of e listed rule.n rule.initials p) rule.n y) (
        (λ z.
            let d = (of_delegate_lem (e p) (listed z.0) y).0 z.3 in
            let is = (delegate_law z.0 d.0 z.1).0 d.1 in
            let few = ((delegate_by x sound z.0 (some d.0)).0 is).1.state in
            let m = subst (λ (w : ℕ). y ∈ w) (same p d.0 (omega arith) (omega (arith, few, (sound_rule x sound).0.states))) d.2 in
            (z.0, d.0, (members p (omega arith) z.0).0 z.2, is, m)),
        λ z.
            let is = (delegate_by x sound z.0 (some z.1)).0 z.3 in
            let low = live_within (automaton_of rule) z.0 is.0 in
            let m = subst (λ (w : ℕ). y ∈ w) (sym (same p z.1 (omega arith) (omega (arith, is.1.state, (sound_rule x sound).0.states)))) z.4 in
            (z.0, low, (members p (omega arith) z.0).1 z.2, (of_delegate_lem (e p) (listed z.0) y).1 (z.1, (delegate_law z.0 z.1 low).1 z.3, m)),
      )

  pub join_law : (yes_of e listed rule.n rule.initials rule.finals places ≡ true)
      ↔ ((y : ℕ) × Joined (automaton_by x) f places y × (automaton_by x).Final y)
  join_law =
      Iff.trans (shares_law (join_of e listed rule.n rule.initials places) rule.finals) (
        (λ z. (z.0, (members places (omega arith) z.0).0 z.1, (final_by x z.0).1 z.2)),
        λ z. (z.0, (members places (omega arith) z.0).1 z.1, (final_by x z.0).0 z.2),
      )

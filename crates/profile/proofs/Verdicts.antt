-- What the verdict says of a mapping, and of chunks whose mappings are composed. Assumes that
-- building accepts the rule, and nothing else.
use mathlib.Core.Path.{◌≡◌, refl, ap, ap₂, ◌∙◌}
use mathlib.Core.Logic.{◌↔◌}
use mathlib.Core.Bool.{true}
use mathlib.Core.List.{List, [], ◌∷◌, map, flatten}
use mathlib.Core.Option.{none}
use Prim.Native.Nat.{ℕ, suc, ◌≤◌, ◌<◌}
use native.Mathlib.Omega.{arith}
use lib.ListN.{length, get_or}
use Rattle.base.proofs.Tests.{same_truth}
use Rattle.masks.specs.Masks.{◌∈◌}
use Rattle.masks.proofs.Laws.{part_of, in_union, members_below, shares_law}
use Rattle.marks.specs.Marks.{text_of}
use Rattle.automaton.specs.declared.Rule.{Rule}
use Rattle.automaton.specs.Automaton.{Accepts}
use Rattle.automaton.specs.Rules.{automaton_of}
use Rattle.chunks.proofs.Claims as chunks
use Rattle.compositions.specs.Bracketing.{Bracketed, leaves, value_of}
use Rattle.compositions.proofs.Claims as compositions
use Rattle.mappings.specs.Mappings.{image, compose, composed}
use Rattle.mappings.specs.Claims.{Small, mapping_after, keys_of}
use Rattle.mappings.proofs.Claims as mappings
use Rattle.profile.specs.Profiles.{profile_of}
use Rattle.profile.specs.Runs.{run_of, verdict_of}
use Rattle.profile.specs.Claims.{Takes}
use Rattle.profile.proofs.Answers as answers
use Rattle.profile.proofs.Machine.{walks}

-- a member of the mask f q of an initial state q is final
abbrev Leads : Rule → List ℕ → Type 0
Leads r f = (q : ℕ) × (p : ℕ) × (q ∈ r.initials) × (p ∈ get_or f q 0) × (p ∈ r.finals)

module _ (r : Rule) (takes : Takes r) where
  small : Small r
  small = (answers.taken r takes).0

  few : length (keys_of r) ≤ 512
  few = (answers.taken r takes).1

  initial_below : (q : ℕ) → q ∈ r.initials → q < r.n
  initial_below q e = members_below r.n r.initials q small.good.initials_below e

  final_below : (p : ℕ) → p ∈ r.finals → p < r.n
  final_below p e = members_below r.n r.finals p small.good.finals_below e

  pub verdict : (f : List ℕ) → (verdict_of (profile_of r) f ≡ true) ↔ Leads r f
  verdict f =
      let law = shares_law (image f r.initials) r.finals in (
        (λ e.
            let u = law.0 e in
            let t = part_of (λ q. get_or f q 0) r.initials u.0 8 u.1 in
            (t.from, u.0, t.member, t.there, u.2)),
        λ u.
            law.1
            (u.1, in_union (λ q. get_or f q 0) r.initials u.1 8 u.0 (omega (arith, initial_below u.0 u.2, small.states)) u.2 u.3, u.4),
      )

  pub means_nothing : (f g : List ℕ) → ((q p : ℕ) → q < r.n → p < r.n → (p ∈ get_or f q 0) ↔ (p ∈ get_or g q 0))
      → verdict_of (profile_of r) f ≡ verdict_of (profile_of r) g
  means_nothing f g same =
      same_truth (verdict_of (profile_of r) f) (verdict_of (profile_of r) g) (
        (λ e. let u = (verdict f).0 e in (verdict g).1 (u.0, u.1, u.2, (same u.0 u.1 (initial_below u.0 u.2) (final_below u.1 u.4)).0 u.3, u.4)),
        λ e. let u = (verdict g).0 e in (verdict f).1 (u.0, u.1, u.2, (same u.0 u.1 (initial_below u.0 u.2) (final_below u.1 u.4)).1 u.3, u.4),
      )

  pub ran : (w : List ℕ) → (run_of (profile_of r) w).refusal ≡ none → (run_of (profile_of r) w).masks ≡ mapping_after r (text_of w)
  ran w e =
      let x = answers.ran (profile_of r) w e in
      x.2 ∙ walks r small few (text_of w) (((chunks.claims).text_law (text_of w) r.k).0 x.1)

  -- ---- chunks
  all_ran : (ws : List (List ℕ)) → ((i : ℕ) → i < length ws → (run_of (profile_of r) (get_or ws i [])).refusal ≡ none)
      → map (λ w. (run_of (profile_of r) w).masks) ws ≡ map (mapping_after r) (map text_of ws)
  all_ran [] h = refl
  all_ran (w ∷ ws) h =
      ap₂ (λ (f : List ℕ) (fs : List (List ℕ)). f ∷ fs) (ran w (h 0 (omega arith))) (all_ran ws (λ i b. h (suc i) (omega arith)))

  pub says : (ws : List (List ℕ)) → ((i : ℕ) → i < length ws → (run_of (profile_of r) (get_or ws i [])).refusal ≡ none)
      → (t : Bracketed (List ℕ)) → leaves t ≡ map (λ w. (run_of (profile_of r) w).masks) ws
      → (verdict_of (profile_of r) (value_of compose t) ≡ true) ↔ Accepts (automaton_of r) (flatten (map text_of ws))
  says [] h t e = absurd (omega (arith, (compositions.claims).some_leaf t, ap length e))
  says (w ∷ ws) h t e =
      let value : value_of compose t ≡ mapping_after r (flatten (map text_of (w ∷ ws))) =
      (mappings.claims).brackets t ∙ ap composed (e ∙ all_ran (w ∷ ws) h) ∙ (mappings.claims).of_all r small (text_of w) (map text_of ws) in
      let law = (mappings.claims).says r small (flatten (map text_of (w ∷ ws))) in
      rw value (law.1, law.0)

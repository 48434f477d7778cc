-- R-3, 3, 4, 6 OR 8 AS INSTALLING WOULD: "A later call that takes a checked rule first gives 3, 4,
-- 6 or 8 as installing would." Of every value, exactly; later pages cite it. To believe it, read
-- the definitions that it names:
--
--   rule_number r     the number of a rule as a value    rulecheck/specs/Checking
--   install_number r  that of its installation           calls/specs/Calls
--
-- Assumes nothing.
-- All that they rest on stands in these files of specs/ (tests/believed):
--   base Conditions; limits Limits; masks Masks; automaton Rules, Successor; rulecheck Checking;
--   numbering Numbering; subsets Sets; calls Calls.
use mathlib.Core.Path.{◌≡◌, refl, sym, ◌∙◌}
use mathlib.Core.Logic.{◌↔◌, ◌⊎◌, inl, inr, ⊎_elim}
use mathlib.Core.Bool.{Bool, true, false}
use mathlib.Core.List.{[], ◌∷◌}
use mathlib.Core.Option.{Option, none, some}
use Prim.Native.Nat.{ℕ}
use native.Mathlib.Omega.{arith}
use Rattle.base.specs.Conditions.{on, first_of}
use Rattle.base.proofs.Options.{none-some}
use Rattle.automaton.specs.declared.Rule.{Rule}
use Rattle.subsets.specs.Sets.{too_many}
use Rattle.rulecheck.specs.Checking.{rule_number}
use Rattle.rulecheck.proofs.First.{checked_first, checked_then, rule_small}
use Rattle.calls.specs.Calls.{many_sets, install_number}

nine : (many : Bool) (x : ℕ) → first_of (on 9 many ∷ []) ≡ some x → x ≡ 9
nine true x e = let z : x ≡ 9 = cc in z
nine false x e = none-some refl e

-- a number of an installation is the rule's, or 9 where the rule has none
told : (r : Rule) (x : ℕ) (o : Option ℕ) → rule_number r ≡ o → install_number r ≡ some x
    → (rule_number r ≡ some x) ⊎ ((rule_number r ≡ none) × (x ≡ 9))
unfolding install_number
told r x none e i = inr (e, nine (too_many r.targets r.n r.k) x (sym (checked_then r (many_sets r) e) ∙ i))
told r x (some y) e i = inl (e ∙ sym (checked_first r (many_sets r) y e) ∙ i)

-- The same number, exactly:
pub exactly : (r : Rule) (x : ℕ) → (x ≡ 3) ⊎ (x ≡ 4) ⊎ (x ≡ 6) ⊎ (x ≡ 8) → (rule_number r ≡ some x) ↔ (install_number r ≡ some x)
unfolding install_number
exactly r x few = (
  (λ e. checked_first r (many_sets r) x e),
  λ i.
      ⊎_elim (λ e. e)
      (λ n. absurd (⊎_elim (λ z. omega (arith, n.1)) (⊎_elim (λ z. omega (arith, n.1)) (⊎_elim (λ z. omega (arith, n.1)) (λ z. omega (arith, n.1)))) few))
      (told r x (rule_number r) refl i),
)

-- A rule that is refused with 9, or installed, has none:
pub nine_passes : (r : Rule) → install_number r ≡ some 9 → rule_number r ≡ none
nine_passes r i =
    ⊎_elim (λ e. absurd (let small = rule_small r 9 e in omega arith)) (λ n. n.0) (told r 9 (rule_number r) refl i)

passed : (r : Rule) (o : Option ℕ) → rule_number r ≡ o → install_number r ≡ none → rule_number r ≡ none
unfolding install_number
passed r none e i = e
passed r (some y) e i = none-some i (checked_first r (many_sets r) y e)

pub installed_passes : (r : Rule) → install_number r ≡ none → rule_number r ≡ none
installed_passes r i = passed r (rule_number r) refl i

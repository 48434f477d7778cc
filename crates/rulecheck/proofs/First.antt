-- A call that takes a checked rule first gives its number (document 02, R-3: 3, 4, 6 or 8, as
-- installing would), and then those of its own conditions. Assumes nothing.
use mathlib.Core.Path.{◌≡◌, refl}
use mathlib.Core.Logic.{⊎_elim}
use mathlib.Core.Bool.{true, false}
use mathlib.Core.List.{List, [], ◌∷◌, ◌++◌}
use mathlib.Core.Option.{none, some}
use Prim.Native.Nat.{ℕ, ◌≤◌}
use native.Mathlib.Omega.{arith}
use Rattle.base.specs.Conditions.{Condition, on, first_of}
use Rattle.base.proofs.Options.{none-some}
use Rattle.automaton.specs.declared.Rule.{Rule}
use Rattle.rulecheck.specs.Checking.{rule_conditions, rule_number}
use Rattle.rulecheck.proofs.Laws.{refused}

kept : (cs ds : List Condition) (x : ℕ) → first_of cs ≡ some x → first_of (cs ++ ds) ≡ some x
kept [] ds x e = none-some (refl) e
kept (on number true ∷ cs) ds x e = e
kept (on number false ∷ cs) ds x e = kept cs ds x e

past : (cs ds : List Condition) → first_of cs ≡ none → first_of (cs ++ ds) ≡ first_of ds
past [] ds e = refl
past (on number true ∷ cs) ds e = none-some e refl
past (on number false ∷ cs) ds e = past cs ds e

module _ (r : Rule) (more : List Condition) where
  pub checked_first : (x : ℕ) → rule_number r ≡ some x → first_of (rule_conditions r ++ more) ≡ some x
  checked_first x e = kept (rule_conditions r) more x e

  pub checked_then : rule_number r ≡ none → first_of (rule_conditions r ++ more) ≡ first_of more
  checked_then e = past (rule_conditions r) more e

-- its number is one of the check's
pub rule_small : (r : Rule) (x : ℕ) → rule_number r ≡ some x → x ≤ 8
rule_small r x e =
    ⊎_elim (λ z. omega arith) (⊎_elim (λ z. omega arith) (⊎_elim (λ z. omega arith) (λ z. omega arith)))
    ((refused r).no_other x e)

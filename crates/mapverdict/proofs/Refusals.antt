-- Building is refused as installing is, and a run as a delivery. Assumes nothing.
use mathlib.Core.Path.{◌≡◌, refl, sym, ◌∙◌}
use mathlib.Core.Logic.{◌↔◌, ◌⊎◌}
use mathlib.Core.Bool.{Bool, true, false, cond}
use mathlib.Core.List.{List}
use mathlib.Core.Option.{Option, none, some}
use Prim.Native.Nat.{ℕ, ◌≤◌, ◌<◌}
use native.Mathlib.Omega.{arith}
use Rattle.base.proofs.Options.{none-some}
use Rattle.automaton.specs.declared.Rule.{Rule}
use Rattle.rulecheck.specs.Checking.{rule_number}
use Rattle.profile.specs.Profiles.{build_number, profile_of}
use Rattle.profile.specs.Runs.{run_of}
use Rattle.profile.proofs.Answers as answers
use Rattle.profile.proofs.Claims as profile
use Rattle.subsets.specs.Sets.{too_many}
use Rattle.calls.specs.Replies.{refused}
use Rattle.calls.specs.Calls.{Call, delivers, install_number}
use Rattle.calls.proofs.Conditions.{or_else, install_number_lem}
use Rattle.calls.proofs.Loading as loading
use Rattle.histories.specs.History.{rule_there, places_in, answer_of}
use Rattle.fillings.proofs.Claims as fillings

-- ---- building: the numbers of the check come first in both, and what follows is above 8
by_check : (o : Option ℕ) (over : Bool) (x : ℕ) → x ≤ 8 → or_else o (cond over (some 9) none) ≡ some x → o ≡ some x
by_check none true x l e = let z : 9 ≡ x = cc in absurd (omega arith)
by_check none false x l e = none-some refl e
by_check (some y) over x l e = e

pub as_installed : (r : Rule) (x : ℕ) → x ≤ 8 → (build_number r ≡ some x) ↔ (install_number r ≡ some x)
as_installed r x l =
    let law = ((profile.claims).refused r).checked x l in (
      (λ e. loading.as_installing r x (law.0 e)),
      λ e. law.1 (by_check (rule_number r) (too_many r.targets r.n r.k) x l (sym (install_number_lem r) ∙ e)),
    )

-- ---- running
pub as_delivered : (h : List Call) (r : Rule) → rule_there h ≡ some r → (p v : ℕ) → p < places_in h → (w : List ℕ)
    → (x : ℕ) → (x ≡ 12) ⊎ (x ≡ 13) → ((run_of (profile_of r) w).refusal ≡ some x) ↔ (answer_of h (delivers p v w) ≡ refused x)
as_delivered h r rule p v below w x o = rw (answers.refusal_is (profile_of r) w) ((fillings.claims).as_delivered h r rule p v below w x o)

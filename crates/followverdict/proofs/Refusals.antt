-- Following is refused as installing is, and as a delivery. Assumes nothing.
use mathlib.Core.Path.{◌≡◌, refl, sym, ◌∙◌}
use mathlib.Core.Logic.{◌↔◌, ◌⊎◌}
use mathlib.Core.Bool.{Bool, true, false, cond}
use mathlib.Core.List.{List}
use mathlib.Core.Option.{Option, none, some}
use Prim.Native.Nat.{ℕ, ◌≤◌, ◌<◌}
use native.Mathlib.Omega.{arith}
use Rattle.base.proofs.Options.{none-some}
use Rattle.automaton.specs.declared.Rule.{Rule}
use Rattle.automaton.specs.Rules.{WellFormed}
use Rattle.rulecheck.specs.Checking.{rule_number}
use Rattle.rulecheck.proofs.First.{checked_then}
use Rattle.rulecheck.proofs.Claims as check
use Rattle.chunks.specs.Taking.{chunk_conditions, chunk_number}
use Rattle.subsets.specs.Sets.{too_many}
use Rattle.calls.specs.Replies.{refused}
use Rattle.calls.specs.Calls.{Call, delivers, install_number}
use Rattle.calls.proofs.Conditions.{or_else, install_number_lem}
use Rattle.calls.proofs.Loading as loading
use Rattle.histories.specs.History.{rule_there, places_in, answer_of}
use Rattle.fillings.proofs.Claims as fillings
use Rattle.follow.specs.Following.{follow_number}
use Rattle.follow.proofs.Claims as follow

by_check : (o : Option ℕ) (over : Bool) (x : ℕ) → x ≤ 8 → or_else o (cond over (some 9) none) ≡ some x → o ≡ some x
by_check none true x l e = let z : 9 ≡ x = cc in absurd (omega arith)
by_check none false x l e = none-some refl e
by_check (some y) over x l e = e

pub as_installed : (r : Rule) (w : List ℕ) (x : ℕ) → x ≤ 8 → (follow_number r w ≡ some x) ↔ (install_number r ≡ some x)
as_installed r w x l =
    let law = ((follow.claims).numbers r w).checked x l in (
      (λ e. loading.as_installing r x (law.0 e)),
      λ e. law.1 (by_check (rule_number r) (too_many r.targets r.n r.k) x l (sym (install_number_lem r) ∙ e)),
    )

-- ---- of a rule that is there only the chunk's numbers are left
pub chunk_number_lem : (r : Rule) (w : List ℕ) → WellFormed r → follow_number r w ≡ chunk_number r.k w
unfolding follow_number chunk_number
chunk_number_lem r w good = checked_then r (chunk_conditions r.k w) (((check.claims).passes r).1 good)

pub as_delivered : (h : List Call) (r : Rule) → rule_there h ≡ some r → (p v : ℕ) → p < places_in h → (w : List ℕ)
    → (x : ℕ) → (x ≡ 12) ⊎ (x ≡ 13) → (follow_number r w ≡ some x) ↔ (answer_of h (delivers p v w) ≡ refused x)
as_delivered h r rule p v below w x o =
    rw (chunk_number_lem r w ((fillings.claims).well h r rule).0) ((fillings.claims).as_delivered h r rule p v below w x o)

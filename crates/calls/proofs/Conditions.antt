-- The conditions of an installation and of a load: those of the rule or of the file, then 9.
-- Assumes nothing.
--
--   install_number_lem, load_number_lem  the number, by the conditions of the rule or file and then by 9
--   not_refused, load_accepted    what holds where there is none
--   load_installs                 a file that reading accepts has the number of its rule
use mathlib.Core.Path.{◌≡◌, refl, sym, ◌∙◌}
use mathlib.Core.Bool.{Bool, true, false, cond}
use mathlib.Core.List.{List}
use mathlib.Core.Option.{Option, none, some}
use Prim.Native.Nat.{ℕ}
use Rattle.base.proofs.Tests.{zero_one}
use Rattle.base.proofs.Conditions.{first_append}
pub use Rattle.base.proofs.Conditions.{or_else}
use Rattle.automaton.specs.declared.Rule.{Rule}
use Rattle.rulecheck.specs.Checking.{rule_conditions, rule_number}
use Rattle.ruleformat.specs.Refusals.{file_conditions, refusal}
use Rattle.ruleformat.specs.Reader.{rule_of}
use Rattle.ruleformat.proofs.Claims as rulefile
use Rattle.subsets.specs.Sets.{too_many}
use Rattle.calls.specs.Calls.{many_sets, install_number, load_number}

neither : (a : Option ℕ) (t : Bool) → or_else a (cond t (some 9) none) ≡ none → (a ≡ none) × (t ≡ false)
neither (some x) t e = zero_one cc
neither none true e = zero_one cc
neither none false e = (refl, refl)

-- the rule has over 512 sets
abbrev pub over : Rule → Bool
over r = too_many r.targets r.n r.k

pub install_number_lem : (r : Rule) → install_number r ≡ or_else (rule_number r) (cond (over r) (some 9) none)
unfolding install_number
install_number_lem r = first_append (rule_conditions r) (many_sets r)

pub load_number_lem : (f : List ℕ) → load_number f ≡ or_else (refusal f) (cond (over (rule_of f)) (some 9) none)
unfolding load_number refusal
load_number_lem f = first_append (file_conditions f) (many_sets (rule_of f))

-- a rule that no condition holds of
pub not_refused : (r : Rule) → install_number r ≡ none → (rule_number r ≡ none) × (over r ≡ false)
not_refused r e = neither (rule_number r) (over r) (sym (install_number_lem r) ∙ e)

-- a file that reading accepts holds a rule that passes, so 9 alone is left for both
pub load_installs : (f : List ℕ) → refusal f ≡ none → load_number f ≡ install_number (rule_of f)
load_installs f e =
    load_number_lem f ∙ rw e (sym (install_number_lem (rule_of f) ∙ rw ((rulefile.claims).passes f e)))

-- a file that no condition holds of
pub load_accepted : (f : List ℕ) → load_number f ≡ none → (refusal f ≡ none) × (install_number (rule_of f) ≡ none)
load_accepted f e =
    let read = (neither (refusal f) (over (rule_of f)) (sym (load_number_lem f) ∙ e)).0 in
    (read, sym (load_installs f read) ∙ e)

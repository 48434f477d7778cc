-- A load is reading the file and, where that accepts, installing its rule (document 02, R-3): the
-- number of the file comes first in both, and a rule that is read passes, so 9 alone is left.
-- Assumes nothing.
use mathlib.Core.Path.{◌≡◌, ap, ◌∙◌}
use mathlib.Core.List.{List}
use mathlib.Core.Option.{Option, some}
use Prim.Native.Nat.{ℕ}
use Rattle.ruleformat.specs.Refusals.{refusal}
use Rattle.ruleformat.specs.Reader.{rule_of}
use Rattle.calls.specs.declared.Judge.{Judge}
use Rattle.calls.specs.Calls.{load_number, with_sets}
use Rattle.calls.specs.mirror.Steps.{outcome_by, with_rule, install_of, load_of}
use Rattle.calls.specs.Claims.{AsInstalling, LoadIs}
use Rattle.calls.proofs.Conditions.{install_number_lem, load_number_lem, load_installs}

module _ (j : Judge) (f : List ℕ) where
  read_first : (x : ℕ) → refusal f ≡ some x → load_number f ≡ some x
  read_first x e = load_number_lem f ∙ rw e

  pub load_is : LoadIs j f
  unfolding install_of load_of
  load_is = record {
    unread = λ x e. rw (read_first x e);
    installed = λ e. ap (λ (o : Option ℕ). outcome_by o (with_sets (rule_of f)) j (with_rule (rule_of f))) (load_installs f e);
  }

-- the check of a rule as a value gives the number that installing gives
pub as_installing : AsInstalling
as_installing r x e = install_number_lem r ∙ rw e

-- What is claimed of the form of a rule file; proofs/Claims.antt proves it.
use Rattle.std.specs.Prelude.{◌≡◌, List, ℕ}
use Rattle.std.proofs.Math.Option.{none, some}
use Rattle.ruleformat.specs.Reader.{rule_of}
use Rattle.build.specs.mirror.Building.{built_of}
use Rattle.calls.specs.Calls.{load_number}
use Rattle.forms.specs.Form.{form_of}
use Rattle.forms.specs.Back.{back_of}
use Rattle.formmaker.specs.Making.{no_form}
use Rattle.formfile.specs.Files.{form_for}

pub record Claims : Type 0 where
  -- refused exactly as the load is
  pub as_load : (f : List ℕ) → (form_for f).number ≡ load_number f
  -- and a refusal carries zeros
  pub zeros : (f : List ℕ) (x : ℕ) → load_number f ≡ some x → (form_for f).form ≡ no_form
  -- the form of a file that is accepted is that of the rule's table, and gives this table back
  pub form : (f : List ℕ) → load_number f ≡ none
      → (form_for f).form ≡ form_of (built_of (rule_of f)).setcount (built_of (rule_of f)).k (built_of (rule_of f)).next
  pub round_trip : (f : List ℕ) → load_number f ≡ none
      → back_of (form_for f).form
      ≡ record { number = none; table = record { sets = (built_of (rule_of f)).setcount; symbols = (built_of (rule_of f)).k; next = (built_of (rule_of f)).next } }

-- The failure form of the rule in a file: the file is loaded into a fresh judge, and the form of its
-- table is made.
--
--   form_for f  what that answers: refused with 1 to 9 as the load is, else the form
use Rattle.std.specs.Prelude.{List, ℕ}
use Rattle.std.proofs.Math.Option.{Option, none, some}
use Rattle.ruleformat.specs.Reader.{rule_of}
use Rattle.calls.specs.Calls.{load_number}
use Rattle.calls.specs.mirror.Steps.{with_rule}
use Rattle.formmaker.specs.Making.{Made, no_form, made_of}

abbrev pub form_by : Option ℕ → List ℕ → Made
form_by none f = made_of (with_rule (rule_of f))
form_by (some number) f = record { number = some number; form = no_form }

abbrev pub form_for : List ℕ → Made
form_for f = form_by (load_number f) f

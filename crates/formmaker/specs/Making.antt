-- The failure form of a judge's next-set table (document 02, R-14), for any judge whatever. On a
-- judge that no list of calls leaves document 01 leaves the answer free: there more than 512 sets
-- count as 512 and more than 16 symbols as 16, as everywhere, and the cells are taken as they are.
--
--   form_in j      the form of the judge's table
--   Made           the outcome: the number of a refusal, if it is one, and the form
--   made_of j       the outcome on the judge j: 20 where it has no rule, and then zeros
--   made_outcome      what the code's result says
use Rattle.std.specs.Prelude.{Result, Ok, Err, [], ◌∷◌, ℕ, min, replicate}
use Rattle.std.proofs.Math.Option.{Option, none, some}
use Rattle.base.specs.declared.Refusal.{Refusal}
use Rattle.base.specs.Answers.{refusal_number}
use Rattle.base.specs.Conditions.{on, first_of}
use Rattle.limits.specs.Limits.{most_symbols, most_sets, table_cells}
use Rattle.calls.specs.declared.Judge.{Judge}
use Rattle.calls.specs.mirror.Steps.{lacks_rule}
use Rattle.forms.specs.declared.Form.{Form}
use Rattle.forms.specs.Form.{form_of}

abbrev pub form_in : Judge → Form
form_in j = form_of (min j.built.setcount most_sets) (min j.built.k most_symbols) j.built.next

abbrev pub no_form : Form
no_form = record {
  sets = 0;
  symbols = 0;
  failure = replicate most_sets 0;
  kept = replicate most_sets 0;
  cells = replicate table_cells 0;
}

pub record Made : Type 0 where
  pub number : Option ℕ
  pub form : Form

abbrev pub made_by : Option ℕ → Form → Made
made_by none f = record { number = none; form = f }
made_by (some number) f = record { number = some number; form = no_form }

abbrev pub made_of : Judge → Made
made_of j = made_by (first_of (on 20 (lacks_rule j) ∷ [])) (form_in j)

abbrev pub made_outcome : Result Form Refusal → Made
made_outcome (Ok form) = record { number = none; form = form }
made_outcome (Err refusal) = record { number = some (refusal_number refusal); form = no_form }

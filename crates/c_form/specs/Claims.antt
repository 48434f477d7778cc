-- The law of the numbers that C is given for a form and a table: what the two calls answer can be
-- read back from them. proofs/ReadBack.antt proves it.
use Rattle.std.specs.Prelude.{◌≡◌}
use Rattle.flags.specs.Flags.{FlagLaw}
use Rattle.calls.specs.declared.Judge.{Judge}
use Rattle.forms.specs.declared.Form.{Form}
use Rattle.forms.specs.Back.{Back, back_of}
use Rattle.formmaker.specs.Making.{Made, made_of}
use Rattle.c_form.specs.Numbers.{form_shown, form_read_back, table_shown, table_read_back}

pub record Claims : Type 0 where
  -- accepted and refused are by the number, and the form or table is the one that is answered
  pub form_flags : (m : Made) → FlagLaw m.number (form_shown m).accepted (form_shown m).refused
  pub form : (m : Made) → (form_shown m).form ≡ m.form
  pub table_flags : (b : Back) → FlagLaw b.number (table_shown b).accepted (table_shown b).refused
  pub table : (b : Back) → (table_shown b).table ≡ b.table
  pub form_read_back_lem : (j : Judge) → form_read_back (form_shown (made_of j)) ≡ made_of j
  pub table_read_back_lem : (f : Form) → table_read_back (table_shown (back_of f)) ≡ back_of f

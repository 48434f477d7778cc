-- The numbers that C is given for a failure form and for a table. Every field is fixed.
--
--   form_shown m, table_shown b  accepted 1 and refused 0, or accepted 0 and the number of the
--                               refusal; the form or table is all zeros where it is refused
--   form_read_back r, table_read_back r  what such a result says, read back from its numbers
use Rattle.flags.specs.Flags.{flag_by, refused_by, refusal_by}
use Rattle.forms.specs.Back.{Back}
use Rattle.formmaker.specs.Making.{Made}
use Rattle.c_form.specs.declared.FormNumbers.{FormNumbers}
use Rattle.c_form.specs.declared.TableNumbers.{TableNumbers}

abbrev pub form_shown : Made → FormNumbers
form_shown m = record {
  accepted = flag_by m.number;
  refused = refused_by m.number;
  form = m.form;
}

abbrev pub form_read_back : FormNumbers → Made
form_read_back r = record { number = refusal_by r.accepted r.refused; form = r.form }

abbrev pub table_shown : Back → TableNumbers
table_shown b = record {
  accepted = flag_by b.number;
  refused = refused_by b.number;
  table = b.table;
}

abbrev pub table_read_back : TableNumbers → Back
table_read_back r = record { number = refusal_by r.accepted r.refused; table = r.table }

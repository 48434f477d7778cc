-- The functions that C links ask nothing of their caller: what they ask, as the checker reads their
-- contracts (`Reads.Asked`), is met by any argument whatever. Assumes nothing.
use Rattle.calls.specs.declared.Judge.{Judge}
use Rattle.forms.specs.declared.Form.{Form}
use Rattle.c_form.proofs.bellbadger_form.Reads as bellbadger_form
use Rattle.c_form.proofs.bellbadger_form_back.Reads as bellbadger_form_back

pub form_asks_nothing : (j : Judge) → bellbadger_form.Asked tt (j, tt)
form_asks_nothing j = tt

pub back_asks_nothing : (f : Form) → bellbadger_form_back.Asked tt (f, tt)
back_asks_nothing f = tt

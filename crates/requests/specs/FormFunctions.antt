-- What the functions of the failure form (R-14) ask and allow by their own contracts, as the checker
-- reads them (`Reads`): any result that the contract does not rule out.
--
--   AsksForm, MayForm      `make_form`: before it is called on a judge, and what it may return for it
--   AsksTable, MayTable    `table_of`, the way back, on a form
--   AsksFormC, MayFormC    `bellbadger_form`, which C links
--   AsksTableC, MayTableC  `bellbadger_form_back`, which C links
use Rattle.base.specs.declared.Refusal.{Refusal}
use Rattle.forms.specs.declared.Table.{Table}
use Rattle.std.specs.Prelude.{Result}
use denote.Triple.Clauses.{AtExit}
use borrow.Fn.Kinds.{ended_of}
use Rattle.calls.specs.declared.Judge.{Judge}
use Rattle.forms.specs.declared.Form.{Form}
use Rattle.formmaker.proofs.make_form.Reads as form_reads
use Rattle.formmaker.proofs.make_form.Kinds as form_kinds
use Rattle.formback.proofs.table_of.Reads as table_reads
use Rattle.formback.proofs.table_of.Kinds as table_kinds
use Rattle.c_form.specs.declared.FormNumbers.{FormNumbers}
use Rattle.c_form.specs.declared.TableNumbers.{TableNumbers}
use Rattle.c_form.proofs.bellbadger_form.Reads as c_form_reads
use Rattle.c_form.proofs.bellbadger_form.Kinds as c_form_kinds
use Rattle.c_form.proofs.bellbadger_form_back.Reads as c_table_reads
use Rattle.c_form.proofs.bellbadger_form_back.Kinds as c_table_kinds

abbrev pub AsksForm : Judge → Type 0
AsksForm j = form_reads.Asked tt (j, tt)

abbrev pub MayForm : Judge → Result Form Refusal → Type 0
MayForm j r = (s : AtExit (ended_of 0 form_kinds.ps form_kinds.r) tt) × form_reads.Learnt tt (j, tt) r s

abbrev pub AsksTable : Form → Type 0
AsksTable f = table_reads.Asked tt (f, tt)

abbrev pub MayTable : Form → Result Table Refusal → Type 0
MayTable f r = (s : AtExit (ended_of 0 table_kinds.ps table_kinds.r) tt) × table_reads.Learnt tt (f, tt) r s

abbrev pub AsksFormC : Judge → Type 0
AsksFormC j = c_form_reads.Asked tt (j, tt)

abbrev pub MayFormC : Judge → FormNumbers → Type 0
MayFormC j r = (s : AtExit (ended_of 0 c_form_kinds.ps c_form_kinds.r) tt) × c_form_reads.Learnt tt (j, tt) r s

abbrev pub AsksTableC : Form → Type 0
AsksTableC f = c_table_reads.Asked tt (f, tt)

abbrev pub MayTableC : Form → TableNumbers → Type 0
MayTableC f r = (s : AtExit (ended_of 0 c_table_kinds.ps c_table_kinds.r) tt) × c_table_reads.Learnt tt (f, tt) r s

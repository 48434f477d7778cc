-- `print_form` meets its contract. Assumes nothing.
use native.Mathlib.Omega.{arith}
use Rattle.ruletext.proofs.Lengths.{refused_most}
use Rattle.formtext.proofs.Whole.{form_text_lem, refused_text_lem}
use Rattle.formtext.proofs.print_form.Goals as goal

pub returns-in-Ok : goal.returns-in-Ok
returns-in-Ok c =
    (rw (← form_text_lem c.args.file.now _ c.in-Ok.ensures) c.put_form.ensures.0, c.put_form.ensures.1)

pub returns-in-Err : goal.returns-in-Err
returns-in-Err c = (
  rw (← refused_text_lem c.args.file.now c.in-Err.refusal c.in-Err.ensures, ← c.number.ensures) c.put_refused.ensures,
  omega (arith, c.put_refused.ensures.ends, refused_most c.number.result (omega arith)),
)

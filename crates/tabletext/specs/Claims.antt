-- What is claimed of the answers; proofs/Claims.antt proves it.
use Rattle.std.specs.Prelude.{◌≡◌, ◌≤◌, length}
use Rattle.std.proofs.Math.Option.{Option, some}
use Rattle.forms.specs.declared.Form.{Form}
use Rattle.formline.specs.Worked.{form_A}
use Rattle.tabletext.specs.Worked.{table_A}
use Rattle.tabletext.specs.Answers.{answer_text, most_answer}

pub record Claims : Type 0 where
  pub worked : answer_text (some form_A) ≡ table_A
  -- an answer has room
  pub fits : (o : Option Form) → length (answer_text o) ≤ most_answer

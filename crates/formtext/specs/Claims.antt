-- What is claimed of the printed text; proofs/Claims.antt proves it.
use Rattle.std.specs.Prelude.{◌≡◌, ℕ}
use Rattle.ruleformat.specs.Worked.{file_A}
use Rattle.forms.specs.declared.Form.{Form}
use Rattle.forms.specs.Back.{rank, kept_count}
use Rattle.formtext.specs.Worked.{lines_A}
use Rattle.formtext.specs.FormText.{first_cell, text_for}

pub record Claims : Type 0 where
  pub worked : text_for file_A ≡ lines_A
  -- the cells of a line are the set's kept ones: the first stands at the rank of the set's first
  -- cell, and there are as many in all as the first line says
  pub first-is : (f : Form) (t : ℕ) → first_cell f.kept t ≡ rank f t 0
  pub count-is : (f : Form) → first_cell f.kept f.sets ≡ kept_count f

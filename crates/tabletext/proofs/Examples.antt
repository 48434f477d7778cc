-- The answer to rule A's form is computed. Assumes nothing.
use mathlib.Core.Path.{◌≡◌, refl}
use mathlib.Core.Option.{some}
use Rattle.base.specs.Conditions.{any_below}
use Rattle.base.specs.Lists.{list_from, joined}
use Rattle.base.specs.Totals.{total}
use Rattle.text.specs.Numerals.{decimal_below}
use Rattle.forms.specs.Back.{lookup, back_number}
use Rattle.formline.specs.Worked.{form_A}
use Rattle.tabletext.specs.Answers.{answer_text}
use Rattle.tabletext.specs.Worked.{table_A}

pub worked : answer_text (some form_A) ≡ table_A
unfolding any_below list_from joined total decimal_below lookup back_number
worked = refl

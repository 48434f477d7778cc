-- The rows worked by hand are answered as their list says: by computing. Assumes nothing.
use mathlib.Core.Path.{refl}
use Rattle.masks.specs.Masks.{union}
use Rattle.trays.specs.Rows.{rows_of, rows_up_to, column_of, rows_pass, columns_pass}
use Rattle.trays.specs.Worked.{trays, Answered}

pub answered : Answered trays
unfolding union rows_of rows_up_to column_of rows_pass columns_pass
answered = (refl, (refl, (refl, (refl, (refl, (refl, (refl, (refl, tt))))))))

-- A form put together of its parts, which the functions below `table_of` are lent one by one.
use Rattle.std.specs.Prelude.{List, ℕ}
use Rattle.forms.specs.declared.Form.{Form}

abbrev pub form_by : ℕ → ℕ → List ℕ → List ℕ → List ℕ → Form
form_by n k failure kept cells = record { sets = n; symbols = k; failure = failure; kept = kept; cells = cells }

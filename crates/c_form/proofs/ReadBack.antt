-- The numbers that C is given, read back: by cases of what is answered. Assumes nothing.
use mathlib.Core.Path.{◌≡◌, refl}
use mathlib.Core.List.{[], ◌∷◌}
use mathlib.Core.Option.{Option, none, some}
use Prim.Native.Nat.{ℕ}
use Rattle.base.specs.Conditions.{on, first_of}
use Rattle.flags.proofs.Flags as flags
use Rattle.calls.specs.mirror.Steps.{lacks_rule}
use Rattle.forms.specs.declared.Form.{Form}
use Rattle.forms.specs.declared.Table.{Table}
use Rattle.forms.specs.Back.{back_number, back_by, table_of}
use Rattle.formmaker.specs.Making.{made_by, form_in}
use Rattle.c_form.specs.Numbers.{form_shown, form_read_back, table_shown, table_read_back}
use Rattle.c_form.specs.Claims.{Claims}

form_by_lem : (number : Option ℕ) (f : Form) → form_read_back (form_shown (made_by number f)) ≡ made_by number f
form_by_lem none f = refl
form_by_lem (some x) f = refl

table_by_lem : (number : Option ℕ) (t : Table) → table_read_back (table_shown (back_by number t)) ≡ back_by number t
table_by_lem none t = refl
table_by_lem (some x) t = refl

pub claims : Claims
claims = record {
  form_flags = λ m. (flags.claims).flags m.number;
  form = λ m. refl;
  table_flags = λ b. (flags.claims).flags b.number;
  table = λ b. refl;
  form_read_back_lem = λ j. form_by_lem (first_of (on 20 (lacks_rule j) ∷ [])) (form_in j);
  table_read_back_lem = λ f. table_by_lem (back_number f) (table_of f);
}

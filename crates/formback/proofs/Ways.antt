-- The two ways out of `table_of`, over plain variables. Assumes nothing.
use Rattle.std.proofs.Common.{Ok, Err}
use mathlib.Core.Path.{◌≡◌, ap, ◌∙◌}
use mathlib.Core.List.{List}
use mathlib.Core.Option.{Option, none, some}
use Prim.Native.Nat.{ℕ}
use Rattle.base.specs.declared.Refusal.{Refusal}
use Rattle.base.specs.Answers.{refusal_number}
use Rattle.base.specs.Lists.{list_from}
use Rattle.limits.specs.Limits.{table_cells}
use Rattle.forms.specs.declared.Form.{Form}
use Rattle.forms.specs.Back.{back_number, back_cell, back_by, table_of, back_outcome, back_of}

module _ (f : Form) where
  pub accepted : none ≡ back_number f → (next : List ℕ) → next ≡ list_from 0 table_cells (back_cell f)
      → back_outcome (Ok (record { sets = f.sets; symbols = f.symbols; next = next })) ≡ back_of f
  accepted e next n =
      ap (λ (x : List ℕ). record { number = none; table = record { sets = f.sets; symbols = f.symbols; next = x } }) n
      ∙ ap (λ (o : Option ℕ). back_by o (table_of f)) e

  pub refused : (r : Refusal) → some (refusal_number r) ≡ back_number f → back_outcome (Err r) ≡ back_of f
  refused r e = ap (λ (o : Option ℕ). back_by o (table_of f)) e

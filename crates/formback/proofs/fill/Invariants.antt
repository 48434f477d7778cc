-- `fill` meets its contract. The loop's invariant: the cells passed are those of the table, and as
-- many packed cells were taken as are kept among them. Assumes nothing.
use mathlib.Core.Path.{◌≡◌}
use Prim.Native.Nat.{◌≤◌}
use lib.ListN.{length}
use Rattle.forms.specs.Form.{how_many, kept_at}
use Rattle.forms.specs.Back.{back_cell}
use Rattle.forms.proofs.Filling.{Filled}
use Rattle.formback.specs.mirror.Parts.{form_by}
use Rattle.formback.proofs.fill.Given as goal

abbrev pub invariant-loop-c : goal.invariant-loop-c
invariant-loop-c l =
    (l.sets ≤ 512) × (l.at ≡ how_many (kept_at l.kept) l.c) × (l.at ≤ l.c) × (length l.next ≡ 8192)
    × Filled 8192 512 (back_cell (form_by l.sets l.k l.failure l.kept l.cells)) l.c l.next

-- `pack` meets its contract. The loop's invariant: the cells are those packed so far, and 0. Assumes nothing.
use mathlib.Core.Path.{◌≡◌}
use Prim.Native.Nat.{◌≤◌}
use lib.ListN.{length, get_or}
use Rattle.forms.specs.Form.{how_many, kept_at}
use Rattle.formmaker.proofs.Turns.{Packed}
use Rattle.formmaker.proofs.pack.Given as goal

abbrev pub invariant-loop-c : goal.invariant-loop-c
invariant-loop-c l =
    (l.at ≡ how_many (kept_at l.kept) l.c) × (l.at ≤ l.c) × (length l.cells ≡ 8192) × Packed (kept_at l.kept) (λ j. get_or l.next j 0) l.c l.cells

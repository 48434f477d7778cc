-- `bits_in` meets its contract. The loop's invariant: the bits of the symbols passed are counted.
-- Assumes nothing.
use mathlib.Core.Path.{◌≡◌}
use Prim.Native.Nat.{◌≤◌}
use Rattle.masks.specs.Masks.{has}
use Rattle.forms.specs.Form.{how_many}
use Rattle.formtext.proofs.bits_in.Given as goal

abbrev pub invariant-loop-s : goal.invariant-loop-s
invariant-loop-s l = (l.s ≤ 16) × (l.n ≤ l.s) × (l.n ≡ how_many (has l.mask) l.s)

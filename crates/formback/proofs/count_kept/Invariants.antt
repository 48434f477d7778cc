-- `count_kept` meets its contract. Assumes nothing.
use mathlib.Core.Path.{◌≡◌}
use Prim.Native.Nat.{◌≤◌}
use Rattle.forms.specs.Form.{how_many, kept_at}
use Rattle.formback.proofs.count_kept.Given as goal

abbrev pub invariant-loop-c : goal.invariant-loop-c
invariant-loop-c l = (l.n ≤ l.c) × (l.n ≡ how_many (kept_at l.kept) l.c)

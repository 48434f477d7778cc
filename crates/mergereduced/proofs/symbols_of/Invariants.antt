-- `symbols_of` meets its contract: the cells below `cell` are filled. Assumes nothing.
use mathlib.Core.Path.{◌≡◌}
use Prim.Native.Nat.{ℕ, ◌/◌, ◌%◌, ◌<◌}
use lib.ListN.{length, get_or}
use Rattle.mergereduced.specs.mirror.Asked.{symbols_to}
use Rattle.mergereduced.proofs.symbols_of.Given as goal

abbrev pub invariant-loop-cell : goal.invariant-loop-cell
invariant-loop-cell l = (length l.symbols-items ≡ 1024) × ((i : ℕ) → i < l.cell → get_or l.symbols-items i 0 ≡ symbols_to l.t (i / 32) (i % 32))

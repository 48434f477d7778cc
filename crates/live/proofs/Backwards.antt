-- A cell of the table is a target mask. Assumes nothing.
use mathlib.Core.Path.{◌≡◌}
use mathlib.Core.List.{List}
use Prim.Native.Nat.{ℕ, ◌+◌, ◌*◌, ◌<◌}
use lib.ListN.{get_or}
use borrow.Author.Tests.{lt-ltb}
use Rattle.automaton.specs.Rules.{target_mask}

pub cell : (ts : List ℕ) (q s : ℕ) → s < 16 → get_or ts (q * 16 + s) 0 ≡ target_mask ts q s
cell ts q s h = rw (lt-ltb s 16 h)

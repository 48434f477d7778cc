-- `combine` meets its contract, cell by cell. Assumes nothing.
use mathlib.Core.Path.{◌≡◌}
use Prim.Native.Nat.{ℕ, ◌<◌}
use lib.ListN.{length, get_or}
use Rattle.compositions.specs.Relations.{image_of}
use Rattle.summaries.proofs.combine.Given as goal

abbrev pub invariant-loop-q : goal.invariant-loop-q
invariant-loop-q l =
    (length l.leads ≡ 32) × ((i : ℕ) → i < l.q → get_or l.leads i 0 ≡ image_of 32 l.second (get_or l.fn.earlier.leads i 0))

-- `end_masks` meets its contract. Assumes nothing.
use mathlib.Core.Path.{◌≡◌}
use Prim.Native.Nat.{ℕ, ◌/◌, ◌<◌}
use lib.ListN.{length, get_or}
use Rattle.chunks.specs.mirror.Walks.{mask_of}
use Rattle.chunks.proofs.end_masks.Given as goal

abbrev pub invariant-loop-q : goal.invariant-loop-q
invariant-loop-q l = (length l.ends ≡ 32) × ((p : ℕ) → p < l.q → get_or l.ends p 0 ≡ mask_of l.sets (get_or l.fn.rows p 0 / 16))

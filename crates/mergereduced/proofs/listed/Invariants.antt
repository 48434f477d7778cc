-- `listed` meets its contract: the places below p are filled. Assumes nothing.
use mathlib.Core.Path.{◌≡◌}
use Prim.Native.Nat.{ℕ, ◌<◌}
use lib.ListN.{length, get_or}
use Rattle.mergereduce.specs.Trimmed.{nth}
use Rattle.mergereduced.specs.mirror.Asked.{set_in}
use Rattle.mergereduced.proofs.listed.Given as goal

abbrev pub invariant-loop-p : goal.invariant-loop-p
invariant-loop-p l = (length l.pair-items ≡ 32) × ((i : ℕ) → i < l.p → get_or l.pair-items i 0 ≡ nth l.n (set_in l.set) i)

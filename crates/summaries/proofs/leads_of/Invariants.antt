-- `leads_of` meets its contract, cell by cell. Assumes nothing.
use mathlib.Core.Path.{◌≡◌}
use Prim.Native.Nat.{ℕ, ◌<◌}
use lib.ListN.{length, get_or}
use Rattle.chunks.specs.mirror.Walks.{delegate_mask}
use Rattle.summaries.proofs.leads_of.Given as goal

abbrev pub invariant-loop-q : goal.invariant-loop-q
invariant-loop-q l =
    (length l.leads ≡ 32) × ((i : ℕ) → i < l.q → get_or l.leads i 0 ≡ delegate_mask l.delegates l.n (get_or l.fn.ends i 0))

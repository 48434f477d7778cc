-- `prune` meets its contract: each cell below c is kept as it must be, and the others are empty.
-- Assumes nothing.
use Prim.Native.Nat.{ℕ}
use native.Mathlib.Omega.{arith}
use lib.ListN.{length-replicate, get_or-replicate}
use Rattle.locating.proofs.Pruning.{one_kept, all_kept}
use Rattle.locating.proofs.prune.Goals as goal

pub loop-c-init : goal.loop-c-init
loop-c-init c = record { size = length-replicate {A = ℕ} 8192 512; below = λ p h. absurd (omega arith); rest = λ p a b. get_or-replicate {A = ℕ} 8192 p 512 0 b }

pub loop-c-preserved : goal.loop-c-preserved
loop-c-preserved c =
    let l = c.loop-c in
    let a = c.args in
    let v = c.kept_cell in
    let k = one_kept a.sets.now a.next.now a.live l.c l.out l.invariant (omega arith) v.result v.ensures in
    record { size = k.0; below = k.1; rest = k.2 }

pub returns : goal.returns
returns c =
    let l = c.loop-c in
    let a = c.args in
    all_kept a.sets.now a.next.now a.live l.c l.out l.invariant a.count (omega arith)

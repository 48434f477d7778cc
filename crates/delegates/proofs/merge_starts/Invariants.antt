-- `merge_starts` meets its contract. The loop's invariant is `Merging`. Assumes nothing.
use Prim.Native.Nat.{min}
use Rattle.delegates.proofs.Merging.{Merging}
use Rattle.delegates.proofs.merge_starts.Given as goal

abbrev pub invariant-loop-q : goal.invariant-loop-q
invariant-loop-q l = Merging l.sets l.next l.finals l.singles (min l.k 16) l.own l.delegates l.starts l.q

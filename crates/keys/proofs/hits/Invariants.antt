-- `hits` meets its contract: the cells before j are looked at. Assumes nothing.
use mathlib.Core.Path.{◌≡◌}
use Prim.Native.Nat.{◌+◌, ◌%◌, ◌^◌, ◌≤◌}
use lib.Dec.{eqb}
use lib.ListN.{get_or}
use Rattle.base.specs.Conditions.{any_below}
use Rattle.keys.proofs.hits.Given as goal

abbrev pub invariant-loop-j : goal.invariant-loop-j
invariant-loop-j l = (l.j ≤ 32) × (l.found ≡ any_below (λ i. eqb (get_or l.keys (l.from + i) 0 % 2 ^ 32) l.half) l.j)

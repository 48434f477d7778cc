-- `lead` meets its contract. Each of the eight is on its run, and the first leads. Assumes nothing.
use Prim.Native.Nat.{◌-◌}
use Rattle.lanes.proofs.Leading.{On, Leads}
use Rattle.lanes.proofs.lead.Given as goal

abbrev pub invariant-loop-i : goal.invariant-loop-i
invariant-loop-i l =
    Leads l.t l.part l.i l.end l.initial.r0 l.r0
    × On l.t l.part l.i l.initial.r0 l.r0
    × On l.t l.part l.i l.initial.r1 l.r1
    × On l.t l.part l.i l.initial.r2 l.r2
    × On l.t l.part l.i l.initial.r3 l.r3
    × On l.t l.part l.i l.initial.r4 l.r4
    × On l.t l.part l.i l.initial.r5 l.r5
    × On l.t l.part l.i l.initial.r6 l.r6
    × On l.t l.part l.i l.initial.r7 l.r7

abbrev pub decreases-loop-i : goal.decreases-loop-i
decreases-loop-i l = l.end - l.i

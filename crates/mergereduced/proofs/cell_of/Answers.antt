-- `cell_of` meets its contract. Assumes nothing.
use native.Mathlib.Omega.{arith}
use Prim.Native.Nat.{◌/◌}
use Rattle.merging.specs.Merged.{targets_of}
use Rattle.mergereduced.proofs.Ways.{cell_state, cell_none}
use Rattle.mergereduced.proofs.cell_of.Goals as goal

pub arc_mask-requires : goal.arc_mask-requires
arc_mask-requires c =
    let a = c.args in
    let g = c.requires in
    (g.0, g.1, g.1.states (a.cell / 16) c.if-p-c.true, omega arith)

pub returns-then-p-c : goal.returns-then-p-c
returns-then-p-c c =
    let a = c.args in
    cell_state (targets_of a.way a.n1 a.n2 a.t1.now a.t2.now) a.list.now a.c a.cell c.if-p-c.true c.arc_mask.result c.arc_mask.ensures

pub returns : goal.returns
returns c =
    let a = c.args in
    cell_none (targets_of a.way a.n1 a.n2 a.t1.now a.t2.now) a.list.now a.c a.cell c.if-p-c.false

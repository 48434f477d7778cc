-- `row_fault` meets its contract: the rows of the bands passed are accepted. Assumes nothing.
use mathlib.Core.Path.{refl, ap, ◌∙◌}
use Prim.Native.Nat.{ℕ, ◌*◌}
use native.Mathlib.Omega.{arith}
use lib.ListN.{length, drop}
use Rattle.trays.specs.Rows.{rows_of}
use Rattle.trayverdict.proofs.Walks.{band_fits}
use Rattle.faults.specs.First.{first_found}
use Rattle.faults.specs.Faulting.{band_wrong}
use Rattle.faults.proofs.Ways.{answer_found, answer_none, all_done}
use Rattle.faults.proofs.row_fault.Goals as goal

pub loop-p-init : goal.loop-p-init
unfolding first_found
loop-p-init c = refl

pub band_fault-requires : goal.band_fault-requires
band_fault-requires c = (
  band_fits c.loop-p.p c.row_count-count.result c.args.width (length c.args.cells.now) (omega arith)
      c.row_count-count.ensures.1 c.requires.1 c.requires.0,
  c.row_count-count.ensures.1,
)

pub returns-in-Some : goal.returns-in-Some
returns-in-Some c =
    let x = c.loop-p in
    let a = c.args in
    answer_found _ a.bands x.p x.invariant c.loop-p-test.true _
    (c.in-Some.ensures ∙ ap (λ (n : ℕ). band_wrong a.rule x.p (rows_of a.width n (drop (x.p * 1024) a.cells.now))) c.row_count-count.ensures.0)

pub loop-p-preserved : goal.loop-p-preserved
loop-p-preserved c =
    let x = c.loop-p in
    let a = c.args in
    answer_none _ a.bands x.p x.invariant
    (c.in_default.ensures ∙ ap (λ (n : ℕ). band_wrong a.rule x.p (rows_of a.width n (drop (x.p * 1024) a.cells.now))) c.row_count-count.ensures.0)

pub returns : goal.returns
returns c =
    let x = c.loop-p in
    all_done _ c.args.bands x.p x.invariant (omega arith) c.loop-p-test.false

-- `column_set` meets its contract: the set after the bands before p. Assumes nothing.
use mathlib.Core.Path.{◌≡◌, refl}
use native.Mathlib.Omega.{arith}
use lib.ListN.{length}
use Rattle.trays.specs.Rows.{rows_up_to, column_of}
use Rattle.trayverdict.proofs.Walks.{column_on, band_fits}
use Rattle.trayverdict.proofs.column_set.Goals as goal

pub loop-p-init : goal.loop-p-init
unfolding rows_up_to column_of
loop-p-init c = refl

pub column_after-reached-requires : goal.column_after-reached-requires
column_after-reached-requires c = (
  band_fits c.loop-p.p c.row_count-count.result c.args.width (length c.args.cells.now) (omega arith) c.row_count-count.ensures.1 c.requires.1 c.requires.0,
  c.requires.3,
)

pub loop-p-preserved : goal.loop-p-preserved
loop-p-preserved c =
    let x = c.loop-p in
    let a = c.args in
    column_on a.targets.now a.initials a.column a.width a.rows.now a.cells.now x.p x.reached x.invariant
    c.row_count-count.result c.row_count-count.ensures.0 c.column_after-reached.result c.column_after-reached.ensures

pub returns : goal.returns
returns c =
    let x = c.loop-p in
    let e : x.p ≡ c.args.bands = omega arith in
    rw (← e) x.invariant

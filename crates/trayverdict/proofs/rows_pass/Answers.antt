-- `rows_pass` meets its contract: the rows of the bands before p pass. Assumes nothing.
use mathlib.Core.Path.{◌≡◌, refl, sym, ◌∙◌}
use mathlib.Core.Bool.{true}
use native.Mathlib.Omega.{arith}
use lib.ListN.{length}
use Rattle.trays.specs.Rows.{rows_up_to, rows_pass}
use Rattle.trays.specs.Boards.{band_in}
use Rattle.trayverdict.proofs.Walks.{pass_more, pass_fails, band_fits}
use Rattle.trayverdict.proofs.rows_pass.Goals as goal

pub loop-p-init : goal.loop-p-init
unfolding rows_up_to rows_pass
loop-p-init c = refl

pub band_passes-requires : goal.band_passes-requires
band_passes-requires c =
    band_fits c.loop-p.p c.row_count-count.result c.args.width (length c.args.cells.now) (omega arith)
    c.row_count-count.ensures.1 c.requires.1 c.requires.0

pub returns-then-not-band_passes : goal.returns-then-not-band_passes
returns-then-not-band_passes c =
    let x = c.loop-p in
    let a = c.args in
    sym (pass_fails a.rule (band_in a.width a.rows.now a.cells.now) a.bands x.p (omega arith)
    (rw (← c.row_count-count.ensures.0, ← c.band_passes.ensures) (c.if-not-band_passes.true)))

pub loop-p-preserved : goal.loop-p-preserved
loop-p-preserved c =
    let x = c.loop-p in
    let a = c.args in
    let at = band_in a.width a.rows.now a.cells.now in
    let here : rows_pass a.rule (at x.p) ≡ true =
    rw (← c.row_count-count.ensures.0, ← c.band_passes.ensures) (c.if-not-band_passes.false) in
    (pass_more a.rule at x.p ∙ rw (x.invariant, here))

pub returns : goal.returns
returns c =
    let x = c.loop-p in
    let e : x.p ≡ c.args.bands = omega arith in
    rw (← e) (sym x.invariant)

-- `columns_pass` meets its contract: the columns before c pass. Assumes nothing.
use mathlib.Core.Path.{◌≡◌, refl, sym}
use mathlib.Core.Bool.{true}
use native.Mathlib.Omega.{arith}
use Rattle.trays.specs.Rows.{rows_up_to, columns_pass}
use Rattle.trays.specs.Boards.{band_in}
use Rattle.trayverdict.proofs.Walks.{columns_more, columns_fail}
use Rattle.trayverdict.proofs.columns_pass.Goals as goal

pub loop-c-init : goal.loop-c-init
unfolding columns_pass
loop-c-init c = refl

pub column_set-set-requires : goal.column_set-set-requires
column_set-set-requires c =
    (c.requires.0, c.requires.1, c.requires.2, c.loop-c-test.true)

pub returns-then-not-meets : goal.returns-then-not-meets
returns-then-not-meets c =
    let x = c.loop-c in
    let a = c.args in
    sym (columns_fail a.rule (rows_up_to (band_in a.width a.rows.now a.cells.now) a.bands) a.width x.c (omega arith)
    (rw (← c.column_set-set.ensures, ← c.meets.ensures) (c.if-not-meets.true)))

pub loop-c-preserved : goal.loop-c-preserved
loop-c-preserved c =
    let x = c.loop-c in
    let a = c.args in
    columns_more a.rule (rows_up_to (band_in a.width a.rows.now a.cells.now) a.bands) x.c x.invariant
    (rw (← c.column_set-set.ensures, ← c.meets.ensures) (c.if-not-meets.false))

pub returns : goal.returns
returns c =
    let x = c.loop-c in
    let e : x.c ≡ c.args.width = omega arith in
    let at_c = x.invariant in
    rw e at (sym at_c)

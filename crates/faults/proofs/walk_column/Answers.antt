-- `walk_column` meets its contract: the set after the bands passed, in each of which a live state
-- was left with every row. Assumes nothing.
use mathlib.Core.Path.{◌≡◌, refl, sym, ap, ◌∙◌}
use Prim.Native.Nat.{ℕ}
use native.Mathlib.Omega.{arith}
use lib.ListN.{length}
use Rattle.automaton.specs.Successor.{after}
use Rattle.trays.specs.Rows.{rows_up_to, column_of}
use Rattle.trays.specs.Boards.{band_in}
use Rattle.trayverdict.proofs.Walks.{band_fits}
use Rattle.faults.specs.First.{first_found}
use Rattle.faults.specs.Faulting.{reaches, band_on}
use Rattle.faults.proofs.First.{first_here, first_more}
use Rattle.faults.proofs.Ways.{lost_first, column_lost, column_ends, way_stuck, way_ends, band_walked}
use Rattle.std.proofs.lemmas.Result.{err_from_is_err_and}
use Rattle.std.proofs.lemmas.Bool.{not_from_false, not_from_true}
use Rattle.faults.proofs.walk_column.Goals as goal

pub overflow_cast-result : goal.overflow_cast-result
overflow_cast-result c = omega (arith, c.requires)

pub returns-then-not-meets : goal.returns-then-not-meets
returns-then-not-meets c =
    let a = c.args in
    lost_first a.targets.now a.live a.column a.initials (band_in a.width a.rows.now a.cells.now) a.bands _ c.meets.ensures (not_from_false _ c.if-not-meets.true) _

pub loop-p-init : goal.loop-p-init
unfolding first_found rows_up_to column_of
loop-p-init c = (refl, refl)

pub walk_band-requires : goal.walk_band-requires
walk_band-requires c = (
  band_fits c.loop-p.p c.row_count-count.result c.args.width (length c.args.cells.now) (omega arith)
      c.row_count-count.ensures.1 c.requires.1 c.requires.0,
  c.row_count-count.ensures.1,
  c.requires.1,
  c.requires.3,
)

pub returns-in_err-reached : goal.returns-in_err-reached
returns-in_err-reached c =
    let x = c.loop-p in
    let a = c.args in
    let at = band_in a.width a.rows.now a.cells.now in
    let p = err_from_is_err_and c.from_residual.result c.from_residual.ensures.1 in
    let is = band_walked a.targets.now a.live a.column a.initials a.width a.rows.now a.cells.now x.p x.reached x.invariant.0
    c.row_count-count.result c.row_count-count.ensures.0 _ c.in_err-reached.ensures in
    rw (p.1, p.2)
    (column_lost a.targets.now a.live a.column a.initials at a.bands _ c.meets.ensures (not_from_true _ c.if-not-meets.false) _
    (first_here _ a.bands x.p _ c.loop-p-test.true x.invariant.1 (way_stuck _ _ _ is))
    _)

pub loop-p-preserved : goal.loop-p-preserved
loop-p-preserved c =
    let x = c.loop-p in
    let a = c.args in
    let is = band_walked a.targets.now a.live a.column a.initials a.width a.rows.now a.cells.now x.p x.reached x.invariant.0
    c.row_count-count.result c.row_count-count.ensures.0 _ c.in_ok-reached.ensures in
    let ends = way_ends _ _ _ is in
    (ends.1, first_more _ x.p x.invariant.1 ends.0)

pub returns : goal.returns
returns c =
    let x = c.loop-p in
    let a = c.args in
    let at = band_in a.width a.rows.now a.cells.now in
    let e : x.p ≡ a.bands = omega arith in
    ap reaches (x.invariant.0 ∙ ap (λ (p : ℕ). after a.targets.now a.initials (column_of a.column (rows_up_to at p))) e)
    ∙ column_ends a.targets.now a.live a.column a.initials at a.bands _ c.meets.ensures (not_from_true _ c.if-not-meets.false)
    (ap (first_found (band_on a.targets.now a.live a.column a.initials at)) (sym e) ∙ x.invariant.1)
    _

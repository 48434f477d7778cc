-- `column_fault` meets its contract: none of the columns passed is lost, and the first of them that
-- is not accepted is known. Assumes nothing.
use mathlib.Core.Path.{refl}
use native.Mathlib.Omega.{arith}
use Rattle.trays.specs.Boards.{band_in}
use Rattle.faults.specs.First.{first_found}
use Rattle.faults.proofs.Ways.{lost_or_short, none_lost, short_next, only_short, not_full}
use Rattle.faults.proofs.column_fault.Goals as goal

pub loop-c-init : goal.loop-c-init
unfolding first_found
loop-c-init c = (c.live_states-live.ensures, refl, refl)

pub walk_column-requires : goal.walk_column-requires
walk_column-requires c =
    (c.requires.0, c.requires.1, c.requires.2, c.loop-c-test.true)

pub returns-in-Err : goal.returns-in-Err
returns-in-Err c =
    let x = c.loop-c in
    let a = c.args in
    lost_or_short a.rule (band_in a.width a.rows.now a.cells.now) a.width a.bands x.c x.invariant.1 _ x.invariant.0
    c.loop-c-test.true _ c.in-Err.ensures a.full

pub overflow_cast-c : goal.overflow_cast-c
overflow_cast-c c = omega (arith, c.requires)

pub loop-c-preserved : goal.loop-c-preserved
loop-c-preserved c =
    let x = c.loop-c in
    let a = c.args in
    let at = band_in a.width a.rows.now a.cells.now in (
      x.invariant.0,
      none_lost a.rule at a.width a.bands x.c x.invariant.1 _ x.invariant.0 _ c.in-Ok.ensures,
      short_next a.rule at a.width a.bands x.c x.invariant.1 _ x.invariant.0 _ c.in-Ok.ensures
          x.short c.or_short-short.result x.invariant.2 c.or_short-short.ensures,
    )

pub returns-then-full : goal.returns-then-full
returns-then-full c =
    let x = c.loop-c in
    let a = c.args in
    only_short a.rule (band_in a.width a.rows.now a.cells.now) a.width a.bands x.c (omega arith) c.loop-c-test.false x.invariant.1 a.full
    x.short x.invariant.2 c.if-full.true

pub returns-else-full : goal.returns-else-full
returns-else-full c =
    let x = c.loop-c in
    let a = c.args in
    not_full a.rule (band_in a.width a.rows.now a.cells.now) a.width a.bands x.c (omega arith) c.loop-c-test.false x.invariant.1 a.full c.if-full.false

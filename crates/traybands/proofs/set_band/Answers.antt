-- `set_band` meets its contract: the first i cells of the band are stored. Assumes nothing.
use borrow.Author.Rules.{rules}
use native.Mathlib.Omega.{arith}
use Rattle.traybands.proofs.Cells.{none_stored, one_stored, band_stored}
use Rattle.traybands.proofs.set_band.Goals as goal

pub loop-i-init : goal.loop-i-init
loop-i-init c = (omega arith, none_stored _ _ _ (search rules))

pub loop-i-preserved : goal.loop-i-preserved
loop-i-preserved c =
    let x = c.loop-i in
    let a = c.args in (
      omega arith,
      one_stored a.cells.now a.band a.bytes.now x.i x.cells x.invariant.1 (omega arith) (omega arith) _ c.byte_at.ensures,
    )

pub returns : goal.returns
returns c =
    let x = c.loop-i in
    let a = c.args in
    band_stored a.cells.now a.band a.bytes.now x.i x.cells x.invariant.1 (omega arith)

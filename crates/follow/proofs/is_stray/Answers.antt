-- `is_stray` meets its contract. Assumes nothing.
use Rattle.std.proofs.Common.{ltb, ap, ◌∙◌}
use Rattle.follow.proofs.Steps.{stray_one}
use Rattle.follow.proofs.is_stray.Goals as goal

pub returns : goal.returns
returns c =
    let a = c.args in
    ap (ltb a.k) c.wrapping_add_u8.ensures.value ∙ stray_one a.byte a.k c.ranges.byte.fits

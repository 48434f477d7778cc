-- The chunks worked by hand are answered as their list says: antt computes it. Assumes nothing.
use Rattle.std.proofs.Common.{refl}
use Rattle.base.specs.Conditions.{any_below}
use Rattle.masks.specs.Masks.{union, mask_of}
use Rattle.marks.specs.Marks.{text_of}
use Rattle.rulecheck.specs.Checking.{bad_targets}
use Rattle.chunks.specs.Chunks.{foreign}
use Rattle.masks.specs.Turns.{turns}
use Rattle.follow.specs.Following.{least_below, follow_number, follow_of}
use Rattle.follow.specs.Worked.{cases, Answered}

pub answered : Answered cases
unfolding any_below union text_of bad_targets foreign mask_of turns least_below follow_number follow_of
answered = (refl, (refl, (refl, (refl, (refl, (refl, (refl, tt)))))))

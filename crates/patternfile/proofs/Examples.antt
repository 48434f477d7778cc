-- The patterns worked by hand are answered as their list says: each is computed. Assumes nothing.
use mathlib.Core.Path.{refl}
use Rattle.base.specs.Lists.{list_from, joined}
use Rattle.patternscan.specs.Signs.{sign_of}
use Rattle.patternfile.specs.Worked.{patterns, Answered}

pub answered : Answered patterns
unfolding list_from joined sign_of
answered = (refl, refl, (refl, refl, (refl, refl, (refl, refl, (refl, refl, (refl, refl, (refl, refl, (refl, refl, (refl, refl, (refl, refl, (refl, refl, (refl, refl, (refl, refl, (refl, refl, (refl, refl, (refl, refl, (refl, refl, (refl, refl, (refl, refl, tt)))))))))))))))))))

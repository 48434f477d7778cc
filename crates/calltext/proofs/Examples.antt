-- The answers of specs/Worked.antt are written as stands there, by computation. Assumes nothing.
use mathlib.Core.Path.{refl}
use Rattle.text.specs.Numerals.{decimal_below}
use Rattle.calltext.specs.Worked.{answers, Written}

pub written : Written answers
unfolding decimal_below
written = (refl, (refl, (refl, (refl, (refl, (refl, (refl, (refl, (refl, (refl, tt))))))))))

-- The kinds of a verdict, by computing. Assumes nothing.
use mathlib.Core.Path.{refl}
use Rattle.verdicts.specs.Shown.{KindLaw}

pub kinds : KindLaw
kinds = record {
  refused_is_0 = λ x. (refl, refl);
  waiting_is_1 = λ empty. (refl, refl);
  yes_is_2 = λ count. (refl, refl);
  no_is_3 = λ count. (refl, refl);
}

-- The number of a yes and of a no is that of what the verdict says. Assumes nothing.
use mathlib.Core.Path.{◌≡◌, sym, ap, ◌∙◌}
use mathlib.Core.Bool.{Bool, true, false}
use Rattle.c_mappings.specs.Numbers.{verdict_shown}

module _ (told answer : Bool) (is : told ≡ answer) where
  pub verdict_yes : told ≡ true → 1 ≡ verdict_shown answer
  verdict_yes e = ap verdict_shown (sym e ∙ is)

  pub verdict_no : told ≡ false → 0 ≡ verdict_shown answer
  verdict_no e = ap verdict_shown (sym e ∙ is)

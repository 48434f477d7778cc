-- The rules of specs/Worked.antt have the numbers that stand there, by computation. Assumes
-- nothing.
use mathlib.Core.Path.{◌≡◌, refl}
use mathlib.Core.List.{List, [], ◌∷◌}
use mathlib.Core.Option.{Option}
use Prim.Native.Nat.{ℕ}
use Rattle.base.specs.Conditions.{any_below}
use Rattle.rulecheck.specs.Checking.{bad_targets, rule_number}
use Rattle.rulecheck.specs.Worked.{Case, case, rules, Answered}

-- the numbers of the rules, and those that stand beside them
abbrev given : List Case → List (Option ℕ)
given [] = []
given (case r number ∷ cases) = rule_number r ∷ given cases

abbrev due : List Case → List (Option ℕ)
due [] = []
due (case r number ∷ cases) = number ∷ due cases

one_by_one : (cases : List Case) → given cases ≡ due cases → Answered cases
one_by_one [] e = tt
one_by_one (case r number ∷ cases) e =
    let here : rule_number r ≡ number = cc in
    let rest : given cases ≡ due cases = cc in
    (here, one_by_one cases rest)

pub answered : Answered rules
unfolding bad_targets any_below
answered = one_by_one rules refl

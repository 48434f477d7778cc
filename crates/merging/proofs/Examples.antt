-- The rules of specs/Worked.antt come to what stands there, by computation. Assumes nothing.
use mathlib.Core.Path.{◌≡◌, refl}
use mathlib.Core.List.{List, [], ◌∷◌}
use Rattle.base.specs.Conditions.{any_below}
use Rattle.base.specs.Lists.{list_from}
use Rattle.masks.specs.Masks.{union}
use Rattle.rulecheck.specs.Checking.{bad_targets}
use Rattle.merging.specs.Merging.{Merging, merge_number, merge_of}
use Rattle.merging.specs.Worked.{Case, case, merges, Answered}

-- what the rules come to, and what stands beside them
abbrev given : List Case → List Merging
given [] = []
given (case way r s m ∷ cases) = merge_of way r s ∷ given cases

abbrev due : List Case → List Merging
due [] = []
due (case way r s m ∷ cases) = m ∷ due cases

one_by_one : (cases : List Case) → given cases ≡ due cases → Answered cases
one_by_one [] e = tt
one_by_one (case way r s m ∷ cases) e =
    let here : merge_of way r s ≡ m = cc in
    let rest : given cases ≡ due cases = cc in
    (here, one_by_one cases rest)

pub answered : Answered merges
unfolding merge_number bad_targets any_below list_from union
answered = one_by_one merges refl

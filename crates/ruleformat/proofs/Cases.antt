-- The files of specs/Cases.antt have the answers that stand there, by computation; those of the
-- longest file by its length. Assumes nothing.
use mathlib.Core.Path.{◌≡◌, refl, ap, ◌∙◌}
use mathlib.Core.List.{List, [], ◌∷◌, ◌++◌}
use mathlib.Core.Option.{Option, some}
use Prim.Native.Nat.{ℕ, ◌+◌}
use native.Mathlib.Omega.{arith}
use lib.ListN.{length, drop, length-append}
use Rattle.base.specs.Conditions.{any_below}
use Rattle.base.specs.Lists.{joined}
use Rattle.base.proofs.Conditions.{holds, skips}
use Rattle.ruleformat.specs.Refusals.{too_short, too_long, bad_states, bad_symbols, no_room, bad_mask, bad_pairs, bad_section, bad_arcs, refusal}
use Rattle.ruleformat.specs.Writing.{file_of}
use Rattle.ruleformat.specs.Worked.{full_rule}
use Rattle.ruleformat.specs.Cases.{Case, case, files, Answered}
use Rattle.ruleformat.proofs.Refused.{not_short, long, from_1, from-2, from-3}
use Rattle.ruleformat.proofs.Written.{file_accepted}
use Rattle.ruleformat.proofs.Longest.{well_formed, length_full}

one_more : refusal (file_of full_rule ++ (0 ∷ [])) ≡ some 2
one_more =
    let f = file_of full_rule ++ (0 ∷ []) in
    let size : length f ≡ 32907 = length-append (file_of full_rule) (0 ∷ []) ∙ ap (λ (x : ℕ). x + 1) length_full in
    from_1 f ∙ skips 1 (too_short f) (from-2 f) (not_short f (omega arith)) ∙ holds 2 (too_long f) (from-3 f) (long f (omega arith))

-- the answers of the files, and those that stand beside them
abbrev given : List Case → List (Option ℕ)
given [] = []
given (case f answer ∷ cases) = refusal f ∷ given cases

abbrev due : List Case → List (Option ℕ)
due [] = []
due (case f answer ∷ cases) = answer ∷ due cases

one_by_one : (cases : List Case) → given cases ≡ due cases → Answered cases
one_by_one [] e = tt
one_by_one (case f answer ∷ cases) e =
    let here : refusal f ≡ answer = cc in
    let rest : given cases ≡ due cases = cc in
    (here, one_by_one cases rest)

pub answered : Answered files
unfolding refusal too_short too_long bad_states bad_symbols no_room bad_mask bad_pairs bad_section bad_arcs any_below joined
answered = (refl, (refl, (file_accepted full_rule well_formed, (refl, (one_more, one_by_one (drop 5 files) refl)))))

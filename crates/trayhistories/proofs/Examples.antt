-- The lists of calls worked by hand are answered as specs/Worked.antt says: the theorem over every
-- list gives the list's own answers, and these compute once the rules are known to be installed.
-- Assumes nothing.
use mathlib.Core.Path.{◌≡◌, refl, ◌∙◌}
use mathlib.Core.List.{List, [], ◌∷◌, ◌++◌}
use mathlib.Core.Option.{none, some}
use Rattle.base.specs.Conditions.{any_below}
use Rattle.base.specs.Totals.{total}
use Rattle.masks.specs.Masks.{union}
use Rattle.rulecheck.specs.Checking.{bad_targets}
use Rattle.rulecheck.specs.Worked.{rule_A}
use Rattle.numbering.specs.Numbering.{index_of, numbered, expand_from, close_from, keys_up_to}
use Rattle.subsets.specs.Sets.{sets_of, too_many}
use Rattle.chunks.specs.Chunks.{foreign}
use Rattle.calls.specs.Calls.{install_number}
use Rattle.trays.specs.Rows.{rows_of, rows_up_to, column_of, rows_pass, columns_pass}
use Rattle.trays.specs.Replies.{Reply, with_sets}
use Rattle.trays.specs.Worked.{even_rule}
use Rattle.trayhistories.specs.History.{row_there, column_there, board_there, standing, answers_to}
use Rattle.trayhistories.specs.Worked.{any_rule, no_states, ruled, Case, case, lists, Answered}
use Rattle.trayhistories.proofs.EveryList.{every_list}

pub A_installs : install_number rule_A ≡ none
unfolding install_number bad_targets any_below union index_of numbered expand_from close_from keys_up_to sets_of too_many
A_installs = refl

pub even_installs : install_number even_rule ≡ none
unfolding install_number bad_targets any_below union index_of numbered expand_from close_from keys_up_to sets_of too_many
even_installs = refl

any_installs : install_number any_rule ≡ none
unfolding install_number bad_targets any_below union index_of numbered expand_from close_from keys_up_to sets_of too_many
any_installs = refl

no_states_refused : install_number no_states ≡ some 3
unfolding install_number
no_states_refused = refl

-- the lists' own answers, and those that stand beside them
abbrev given : List Case → List (List Reply)
given [] = []
given (case row column calls more ∷ cases) = answers_to (calls ++ ruled row column) ∷ given cases

abbrev due : List Case → List (List Reply)
due [] = []
due (case row column calls more ∷ cases) = (more ++ (with_sets column ∷ with_sets row ∷ [])) ∷ due cases

told : given lists ≡ due lists
unfolding row_there column_there board_there standing answers_to union total foreign rows_of rows_up_to column_of rows_pass columns_pass
told = rw (A_installs, even_installs, any_installs, no_states_refused) refl

one_by_one : (cases : List Case) → given cases ≡ due cases → Answered cases
one_by_one [] e = tt
one_by_one (case row column calls more ∷ cases) e =
    let here : answers_to (calls ++ ruled row column) ≡ more ++ (with_sets column ∷ with_sets row ∷ []) = cc in
    let rest : given cases ≡ due cases = cc in
    ((every_list (calls ++ ruled row column)).correct ∙ here, one_by_one cases rest)

pub answered : Answered lists
answered = one_by_one lists told

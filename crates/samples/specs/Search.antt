-- The search for a sample: over the sets that texts lead to from the set of initial states, each
-- numbered when it is first found, the empty set too. The first set that meets the wish has the
-- text, which is read off on the way back to set 0. Nothing here needs to be believed:
-- specs/Claims.antt says that it gives the answer that is due.
--
--   set_walk, reached_sets, reached_table  the sets of the rule in number order, and the table of
--                        what each leads to by each symbol
--   many_sets r          there are more than 512
--   search_number r      the number with which the rule is refused: of a checked rule, then 35
--   meets finals wish m  the set m has a final state, or none
--   sample_of r wish     the answer
use Rattle.std.specs.Prelude.{Bool, cond, not, List, [], ◌∷◌, ◌++◌, ℕ, ltb, length}
use Rattle.std.proofs.Math.Option.{Option, none, some}
use Rattle.limits.specs.Limits.{most_sets}
use Rattle.base.specs.Conditions.{Condition, on, first_of}
use Rattle.masks.specs.Masks.{shares}
use Rattle.automaton.specs.declared.Rule.{Rule}
use Rattle.rulecheck.specs.Checking.{rule_conditions}
use Rattle.numbering.specs.Numbering.{Walk, keys_up_to}
use Rattle.keys.specs.declared.Kind.TheVariants.{Sets}
use Rattle.keys.specs.Kinds.{walk_of}
use Rattle.keys.specs.Tables.{cells_to}
use Rattle.searches.specs.Search.{first_where, word_to}
use Rattle.samples.specs.declared.Wish.{Wish}
use Rattle.samples.specs.declared.Wish.TheVariants.{Accepted, Rejected}
use Rattle.samples.specs.Samples.{Sample, text, nothing, refused}

abbrev pub set_walk : Rule → Walk
set_walk r = walk_of Sets r.targets r.k

abbrev pub reached_sets : Rule → List ℕ
reached_sets r = keys_up_to (set_walk r) (λ _. r.initials) 1

abbrev pub reached_table : Rule → List ℕ
reached_table r = cells_to (set_walk r) (reached_sets r)

-- ---- refusals
abbrev pub many_sets : Rule → Bool
many_sets r = ltb most_sets (length (reached_sets r))

abbrev pub own_conditions : Rule → List Condition
own_conditions r = on 35 (many_sets r) ∷ []

unfoldable pub search_number : Rule → Option ℕ
search_number r = first_of (rule_conditions r ++ own_conditions r)

-- ---- the set that meets the wish
abbrev pub meets : ℕ → Wish → ℕ → Bool
meets finals Accepted m = shares m finals
meets finals Rejected m = not (shares m finals)

-- ---- the answer
abbrev pub found_first : Rule → Wish → ℕ
found_first r wish = first_where (meets r.finals wish) (reached_sets r)

abbrev pub sample_by : Option ℕ → Rule → Wish → Sample
sample_by none r wish =
    cond (ltb (found_first r wish) (length (reached_sets r))) (text (word_to (reached_table r) (found_first r wish))) nothing
sample_by (some number) r wish = refused number

unfoldable pub sample_of : Rule → Wish → Sample
sample_of r wish = sample_by (search_number r) r wish

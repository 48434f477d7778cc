-- The conditions of a rule (document 02, R-3: a checked rule), whatever numbers stand in its
-- fields. Those of n, k and the two masks are the conditions 3, 4 and 6 of a rule file too, of the
-- numbers that stand in it. The number of cells is the type's and no condition.
--
--   bad_state_count n   3: n outside 1 to 32
--   bad_symbol_count k  4: k outside 1 to 16
--   beyond n m          the mask m has a bit at n or above, that is, it is not below 2 ^ n
--   bad_masks n i f     6: a mask with a bit at n or above
--   bad_target .. m     the target mask m of state q and symbol s has a bit at n or above, or it is
--                       kept for a state or symbol outside n or k and is not 0
--   bad_cell n k ts c   the mask in cell c of the table is bad
--   bad_targets n k ts  8: some target mask is bad
--   rule_conditions r   the conditions of the rule, in order
--   rule_number r       the number of the first that holds, none where the rule is well formed
use Rattle.std.specs.Prelude.{Bool, ◌&&◌, ◌||◌, not, List, [], ◌∷◌, ℕ, ◌/◌, ◌%◌, ◌^◌, leb, eqb, get_or}
use Rattle.std.proofs.Math.Option.{Option}
use Rattle.base.specs.Conditions.{Condition, on, first_of, outside, any_below}
use Rattle.limits.specs.Limits.{most_states, most_symbols, target_cells}
use Rattle.automaton.specs.declared.Rule.{Rule}

abbrev pub bad_state_count : ℕ → Bool
bad_state_count n = outside 1 most_states n

abbrev pub bad_symbol_count : ℕ → Bool
bad_symbol_count k = outside 1 most_symbols k

abbrev pub beyond : ℕ → ℕ → Bool
beyond n m = leb (2 ^ n) m

abbrev pub bad_masks : ℕ → ℕ → ℕ → Bool
bad_masks n initials finals = beyond n initials || beyond n finals

abbrev pub bad_target : ℕ → ℕ → ℕ → ℕ → ℕ → Bool
bad_target n k q s m = beyond n m || ((leb n q || leb k s) && not (eqb m 0))

-- the mask of state q and symbol s stands in the cell q * 16 + s
abbrev pub bad_cell : ℕ → ℕ → List ℕ → ℕ → Bool
bad_cell n k ts cell = bad_target n k (cell / most_symbols) (cell % most_symbols) (get_or ts cell 0)

unfoldable pub bad_targets : ℕ → ℕ → List ℕ → Bool
bad_targets n k ts = any_below (bad_cell n k ts) target_cells

abbrev pub rule_conditions : Rule → List Condition
rule_conditions r =
    on 3 (bad_state_count r.n) ∷
    on 4 (bad_symbol_count r.k) ∷
    on 6 (bad_masks r.n r.initials r.finals) ∷
    on 8 (bad_targets r.n r.k r.targets) ∷ []

abbrev pub rule_number : Rule → Option ℕ
rule_number r = first_of (rule_conditions r)

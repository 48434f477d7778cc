-- Rules reduced by hand, and refusals at the edges: one list, and one claim over it. All but `even`
-- and `second` have the symbol 0 alone. proofs/Examples.antt proves the claim.
--
--   arcs masks         a table for the symbol 0: the mask of state 0, of state 1, ..
--   also q s m masks   the same table with the mask m for the state q and the symbol s
--   ring q i masks     the masks of a ring, in which q leads to q + 1, .. and q + i back to q; and
--                      then others
--   once, twice        the texts 0, and 0 0: a state leads to the next, and the last is final
--   twice_or_thrice    the texts 0 0 and 0 0 0: the same, and the last two of four states are final
--   odd                the texts of odd length: 0 and 1 lead to each other, and 1 is final
--   even               the texts with an even number of 0s: 0, which is initial and final, and 1
--                      lead to each other by 0, and each to itself by 1
--   not_reached, dead, lower_not_reached, second, alike, behind_merged, no_text
--                      rules that are not lean
--   few_sets, many_sets  a rule with 99 sets, and what it is reduced to, with more than 512
--   reduced_to r       accepted with the rule r, which installs
--   too_large r        accepted with the rule r, which does not
--   case r m           the rule r, reduced, comes to m
--   reductions         the list
--   Answered cases     each comes to what stands beside it
use Rattle.std.specs.Prelude.{◌≡◌, true, false, List, [], ◌∷◌, ℕ, zero, suc, ◌^◌, set}
use Rattle.std.proofs.Math.Option.{none}
use Rattle.automaton.specs.declared.Rule.{Rule}
use Rattle.automaton.specs.Rules.{cell_of}
use Rattle.rulecheck.specs.Worked.{rule, no_targets}
use Rattle.reducing.specs.Reducing.{Reducing, refused_by, reduce_of}

-- those of state q, of state q + 1, ..
abbrev pub arcs_from : ℕ → List ℕ → List ℕ
arcs_from q [] = no_targets
arcs_from q (mask ∷ masks) = set (arcs_from (suc q) masks) (cell_of q 0) mask

abbrev pub arcs : List ℕ → List ℕ
arcs masks = arcs_from 0 masks

abbrev pub also : ℕ → ℕ → ℕ → List ℕ → List ℕ
also q s mask table = set table (cell_of q s) mask

abbrev pub row : ℕ → ℕ → List ℕ → List ℕ
row q zero masks = masks
row q (suc i) masks = 2 ^ suc q ∷ row (suc q) i masks

abbrev pub ring : ℕ → ℕ → List ℕ → List ℕ
ring q i masks = row q i (2 ^ q ∷ masks)

abbrev pub once : Rule
once = rule 2 1 1 2 (arcs (2 ∷ []))

abbrev pub twice : Rule
twice = rule 3 1 1 4 (arcs (2 ∷ 4 ∷ []))

abbrev pub twice_or_thrice : Rule
twice_or_thrice = rule 4 1 1 12 (arcs (2 ∷ 4 ∷ 8 ∷ []))

abbrev pub odd : Rule
odd = rule 2 1 1 2 (arcs (2 ∷ 1 ∷ []))

abbrev pub even : Rule
even = rule 2 2 1 1 (also 0 1 1 (also 1 1 2 (arcs (2 ∷ 1 ∷ []))))

-- 0 leads to 1, which is final; 2, which leads to 0, is not reached
abbrev pub not_reached : Rule
not_reached = rule 3 1 1 2 (arcs (2 ∷ 0 ∷ 1 ∷ []))

-- 0 leads to 1, which is final, and to 2, which leads to itself alone
abbrev pub dead : Rule
dead = rule 3 1 1 2 (arcs (6 ∷ 0 ∷ 4 ∷ []))

-- 0 leads to 2 and 2 to 4; 1 leads to 3, and neither is reached. 3 and 4 are final, so 1 is alike
-- to 2 and 3 to 4
abbrev pub lower_not_reached : Rule
lower_not_reached = rule 5 1 1 24 (arcs (4 ∷ 8 ∷ 16 ∷ []))

-- 1, which is initial and final, and 2 lead to each other by 0, and each to itself by 1; 0 leads to
-- 2 by 0
abbrev pub second : Rule
second = rule 3 2 2 2 (also 1 1 2 (also 2 1 4 (arcs (4 ∷ 4 ∷ 2 ∷ []))))

-- 0, 1 and 2 are initial, and 3 is final: 0 and 2 lead to 3, which leads to 2, and 1 to itself
-- alone
abbrev pub alike : Rule
alike = rule 4 1 7 8 (arcs (8 ∷ 2 ∷ 8 ∷ 4 ∷ []))

-- 0 leads to 1 and 2; 1 to 3, which is final and leads to 4; 2 to 4, which is final, and to 5,
-- which leads to 4. So 1 is alike to 2, and 5 to none
abbrev pub behind_merged : Rule
behind_merged = rule 6 1 1 24 (arcs (6 ∷ 8 ∷ 48 ∷ 16 ∷ 0 ∷ 16 ∷ []))

-- 0 leads to 0 and 1, and 1 to 0; 2, which is final, is not reached
abbrev pub no_text : Rule
no_text = rule 3 1 1 4 (arcs (3 ∷ 1 ∷ []))

-- 0 leads to 9, which is final and leads to itself, and into rings of 3 and of 5 states, 1 to 3 and 4
-- to 8; 10 leads to 26, which leads to 9, and into rings of 7 and of 8, 11 to 17 and 18 to 25. The
-- last of each ring is final. So 26 is alike to 0, and 10 leads to 0 then: from there all four rings
-- come round together after 840 symbols, and two of them did after 56
abbrev pub few_sets : Rule
few_sets = rule 27 1 1025 33686280 (arcs (530 ∷ ring 1 2 (ring 4 4 (512 ∷ 67373056 ∷ ring 11 6 (ring 18 7 (512 ∷ []))))))

abbrev pub many_sets : Rule
many_sets = rule 26 1 1025 33686280 (arcs (530 ∷ ring 1 2 (ring 4 4 (512 ∷ 264193 ∷ ring 11 6 (ring 18 7 [])))))

abbrev pub reduced_to : Rule → Reducing
reduced_to r = record { number = none; installs = true; rule = r }

abbrev pub too_large : Rule → Reducing
too_large r = record { number = none; installs = false; rule = r }

pub data Case : Type 0 where
  case : Rule → Reducing → Case

abbrev pub reductions : List Case
reductions =
    case not_reached (reduced_to once) ∷
    case dead (reduced_to once) ∷
    -- 2 and 4 stay, though 1 and 3 are lower
    case lower_not_reached (reduced_to twice) ∷
    -- the initial state gets the number 0
    case second (reduced_to even) ∷
    -- 0 stands for itself and 2
    case alike (reduced_to odd) ∷
    -- 1 stands for 2, and 5 goes, to which 2 alone led
    case behind_merged (reduced_to twice_or_thrice) ∷
    -- one state is left
    case no_text (reduced_to (rule 1 1 0 0 no_targets)) ∷
    -- lean
    case even (reduced_to even) ∷
    -- the reduced rule does not install, and is refused itself
    case few_sets (too_large many_sets) ∷
    case many_sets (refused_by 9) ∷
    -- no states, no symbols, a state 1 among the initial ones, and one among the targets
    case (rule 0 1 0 0 no_targets) (refused_by 3) ∷
    case (rule 1 0 0 0 no_targets) (refused_by 4) ∷
    case (rule 1 1 2 1 no_targets) (refused_by 6) ∷
    case (rule 1 1 1 1 (arcs (2 ∷ []))) (refused_by 8) ∷ []

abbrev pub Answered : List Case → Type 0
Answered [] = Unit {0}
Answered (case r m ∷ cases) = (reduce_of r ≡ m) × Answered cases

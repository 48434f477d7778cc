-- Rules reduced and made one by hand, and refusals at the edges: one list, and one claim over it.
-- The rules of crates/reducing have their words there. proofs/Examples.antt proves the claim.
--
--   through_two        the texts 0 and 0 0: 0 leads to 1, which is final, and to 2, and 2 to 1
--   once_in n          the text 0, by 0 and 1 of its n states; the others have no arcs
--   once_or_twice      the texts 0 and 0 0: 2 leads to 0 and 0 to 1, which is final; 0 and 2 are
--                      initial
--   six_times          the text of six 0s: a state leads to the next, and the last of 7 is final
--   four_or_more       the texts of four 0s or more: so do its 5 states, and the last to itself
--   crossed            the text 0 0: 0 leads to 2, and 2 to 1, which is final
--   thrice_crossed     the text 0 0 0: 0 leads to 2, 2 to 1, and 1 to 3, which is final
--   round n k          the texts of 0s whose length is a multiple of n: n states in a ring; with k
--                      symbols
--   merged_reduced     the list: two rules, merged by the way, come to what stands beside them
--   Answered cases     each does
use Rattle.std.specs.Prelude.{◌≡◌, List, [], ◌∷◌, ℕ, ◌-◌}
use Rattle.automaton.specs.declared.Rule.{Rule}
use Rattle.rulecheck.specs.Worked.{rule, no_targets}
use Rattle.merging.specs.declared.Way.TheVariants.{Both, Either, Interleaving}
use Rattle.merging.specs.Worked.{Case, case, merged, refused, no_arcs}
use Rattle.reducing.specs.Worked.{arcs, ring, once, twice, odd, even}
use Rattle.mergereduce.specs.MergeReduced.{merge_reduced_of}

abbrev pub through_two : Rule
through_two = rule 3 1 1 2 (arcs (6 ∷ 0 ∷ 2 ∷ []))

abbrev pub once_in : ℕ → Rule
once_in n = rule n 1 1 2 (arcs (2 ∷ []))

abbrev pub six_times : Rule
six_times = rule 7 1 1 64 (arcs (2 ∷ 4 ∷ 8 ∷ 16 ∷ 32 ∷ 64 ∷ []))

abbrev pub four_or_more : Rule
four_or_more = rule 5 1 1 16 (arcs (2 ∷ 4 ∷ 8 ∷ 16 ∷ 16 ∷ []))

abbrev pub once_or_twice : Rule
once_or_twice = rule 3 1 5 2 (arcs (2 ∷ 0 ∷ 1 ∷ []))

abbrev pub crossed : Rule
crossed = rule 3 1 1 2 (arcs (4 ∷ 0 ∷ 2 ∷ []))

abbrev pub thrice_crossed : Rule
thrice_crossed = rule 4 1 1 8 (arcs (4 ∷ 8 ∷ 2 ∷ []))

abbrev pub round : ℕ → ℕ → Rule
round n k = rule n k 1 1 (arcs (ring 0 (n - 1) []))

abbrev pub merged_reduced : List Case
merged_reduced =
    -- (0, 0) and (1, 1) stay; no text leads to (0, 1), (0, 2) and (1, 0), and (1, 2) is dead
    case Both once through_two (merged once) ∷
    -- of the five states the fourth is alike to the first, and the fifth to the second
    case Either once twice (merged once_or_twice) ∷
    -- (0, 1) and (1, 0) are alike
    case Interleaving once once (merged twice) ∷
    -- no text is both: one state is left
    case Both twice odd (merged (no_arcs 1 1)) ∷
    -- 45 pairs of the rules as they are, which merging alone refuses
    case Both (once_in 9) (once_in 5) (merged once) ∷
    -- 35 pairs, of which 7 are reached and live: merging alone refuses them too
    case Both four_or_more six_times (merged six_times) ∷
    -- (0, 0), (1, 2) and (2, 1) stay, in this order: by the first member, then by the second
    case Both crossed twice (merged crossed) ∷
    -- (0, 0), (0, 1), (0, 2) and (1, 1) stay, in this order
    case Interleaving once crossed (merged thrice_crossed) ∷
    -- all 35 pairs are reached and live
    case Both (round 5 1) (round 7 1) (refused 37) ∷
    -- 36, whatever the pairs, and the numbers of the first rule and of the second before it
    case Both once even (refused 36) ∷
    case Both (round 5 1) (round 7 2) (refused 36) ∷
    case Either (rule 0 1 0 0 no_targets) (rule 1 0 0 0 no_targets) (refused 3) ∷
    case Interleaving even (rule 1 1 2 1 no_targets) (refused 6) ∷ []

abbrev pub Answered : List Case → Type 0
Answered [] = Unit {0}
Answered (case way r s m ∷ cases) = (merge_reduced_of way r s ≡ m) × Answered cases

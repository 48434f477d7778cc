-- The starts that document 01 had (document 02, R-7): with the delegates that every state had, also
-- one from which no final state can be reached, an owner saw the same yes or no. The former
-- delegates, runs and join stand in crates/joins/specs/Former.antt; here they are those of a list of
-- calls. proofs/FormerStarts.antt proves the claim of every list.
--
--   former_end_at h d p q  the end set of state q at place p, as it was held with the delegates d
--   former_yes_in h d   the yes or no that the former join gave
--   SameAnswer h        after the calls h, with a board and no place empty, it is the yes or no that
--                       the join gives, whatever list has document 01's delegates
use Rattle.std.specs.Prelude.{◌≡◌, Bool, true, List, ℕ}
use Rattle.automaton.specs.Rules.{automaton_of}
use Rattle.joins.specs.Former.{FormerMerged, former_run_set, former_yes}
use Rattle.calls.specs.Calls.{Call}
use Rattle.histories.specs.History.{rule_in, board_in, places_in, standing_end, standing, empties_in, yes_in}

module _ (h : List Call) where
  abbrev pub former_end_at : List ℕ → ℕ → ℕ → ℕ
  former_end_at d p q = standing_end (rule_in h).targets (former_run_set d (rule_in h).n (rule_in h).initials p) q (standing h p)

  abbrev pub former_yes_in : List ℕ → Bool
  former_yes_in d = former_yes (former_end_at d) d (rule_in h).n (rule_in h).initials (rule_in h).finals (places_in h)

  abbrev pub SameAnswer : Type 0
  SameAnswer = (d : List ℕ) (m : ℕ) → FormerMerged (automaton_of (rule_in h)) d m → board_in h ≡ true → empties_in h ≡ 0 → former_yes_in d ≡ yes_in h

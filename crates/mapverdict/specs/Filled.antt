-- The final mapping gives the yes or no that a filled board with the same chunks gives, for every
-- rule in the profile (document 02, R-8); proofs/Claims.antt proves it.
--
--   Filled h r ws      a board is filled with the chunks ws, by the rule r: crates/fillings
--   RunsAll r ws       the profile of the rule r runs each of the chunks ws
--   mappings_of r ws   the mappings that these runs answer, in order of place
use Rattle.std.specs.Prelude.{◌≡◌, ◌↔◌, ◌⊎◌, true, false, List, [], map, ℕ, ◌≤◌, ◌<◌, length, get_or}
use Rattle.std.proofs.Math.Option.{none, some}
use Rattle.limits.specs.Limits.{most_places}
use Rattle.automaton.specs.declared.Rule.{Rule}
use Rattle.compositions.specs.Bracketing.{Bracketed, leaves, value_of}
use Rattle.mappings.specs.Mappings.{compose}
use Rattle.profile.specs.Profiles.{build_number, profile_of}
use Rattle.profile.specs.Runs.{run_of, verdict_of}
use Rattle.profile.specs.Claims.{Takes}
use Rattle.calls.specs.Replies.{yes_with, no_with, refused}
use Rattle.calls.specs.Calls.{Call, delivers, install_number}
use Rattle.histories.specs.History.{rule_there, board_in, places_in, empties_in, summed_in, verdict_in, answer_of}
use Rattle.fillings.specs.Filled.{Filled}

module _ (r : Rule) (ws : List (List ℕ)) where
  abbrev pub RunsAll : Type 0
  RunsAll = (i : ℕ) → i < length ws → (run_of (profile_of r) (get_or ws i [])).refusal ≡ none

  abbrev pub mappings_of : List (List ℕ)
  mappings_of = map (λ w. (run_of (profile_of r) w).masks) ws

pub record Claims : Type 0 where
  -- the mappings of the standing chunks, composed in any way in order of place, say yes exactly
  -- where the verdict after the list is yes, and no exactly where it is no
  pub yes_same : (h : List Call) (r : Rule) (ws : List (List ℕ)) → Takes r → Filled h r ws → (t : Bracketed (List ℕ)) → leaves t ≡ mappings_of r ws
      → (verdict_of (profile_of r) (value_of compose t) ≡ true) ↔ (verdict_in h ≡ yes_with (summed_in h))
  pub no_same : (h : List Call) (r : Rule) (ws : List (List ℕ)) → Takes r → Filled h r ws → (t : Bracketed (List ℕ)) → leaves t ≡ mappings_of r ws
      → (verdict_of (profile_of r) (value_of compose t) ≡ false) ↔ (verdict_in h ≡ no_with (summed_in h))
  -- what stands on a board is run by the profile too: it meets 12 and 13 as there
  pub runs : (h : List Call) (r : Rule) (ws : List (List ℕ)) → Takes r → Filled h r ws → RunsAll r ws
  -- a board with that rule on which no place is empty is filled so
  pub filled : (h : List Call) (r : Rule) → rule_there h ≡ some r → board_in h ≡ true → empties_in h ≡ 0 → (ws : List (List ℕ)) × Filled h r ws
  -- a rule that the profile takes is never refused with 9, nor with any other number, and 1 to 64
  -- chunks that it runs fill a board
  pub installs : (r : Rule) → Takes r → install_number r ≡ none
  pub fillings : (r : Rule) → Takes r → (ws : List (List ℕ)) → 1 ≤ length ws → length ws ≤ most_places → RunsAll r ws → (h : List Call) × Filled h r ws
  -- building is refused with 3, 4, 6 or 8 exactly where installing is, and a run with 12 or 13
  -- exactly where a delivery of the chunk to a place of a board with that rule is
  pub as_installed : (r : Rule) (x : ℕ) → x ≤ 8 → (build_number r ≡ some x) ↔ (install_number r ≡ some x)
  pub as_delivered : (h : List Call) (r : Rule) → rule_there h ≡ some r → (p v : ℕ) → p < places_in h → (w : List ℕ)
      → (x : ℕ) → (x ≡ 12) ⊎ (x ≡ 13) → ((run_of (profile_of r) w).refusal ≡ some x) ↔ (answer_of h (delivers p v w) ≡ refused x)

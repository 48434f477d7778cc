-- Following a board's chunks in order of place gives the yes or no that the board gives; proofs/Claims.antt
-- proves it. `Filled h r ws` is of crates/fillings: after the calls h a board is there with the rule r,
-- and at its places stand the chunks ws, none of which is missing.
use Rattle.std.specs.Prelude.{◌≡◌, ◌↔◌, ◌⊎◌, true, false, List, [], ◌∷◌, ◌++◌, ℕ, ◌≤◌, ◌<◌, length, get_or}
use Rattle.std.proofs.Math.Option.{none, some}
use Rattle.limits.specs.Limits.{most_places}
use Rattle.automaton.specs.declared.Rule.{Rule}
use Rattle.calls.specs.Replies.{yes_with, no_with, refused}
use Rattle.calls.specs.Calls.{Call, delivers, install_number}
use Rattle.histories.specs.History.{rule_there, board_in, places_in, empties_in, summed_in, verdict_in, answer_of}
use Rattle.fillings.specs.Filled.{Filled}
use Rattle.follow.specs.Following.{follow_number, follow_of}
use Rattle.follow.specs.Claims.{handed}

abbrev pub FollowsAll : Rule → List (List ℕ) → Type 0
FollowsAll r ws = (i : ℕ) → i < length ws → follow_number r (get_or ws i []) ≡ none

pub record Claims : Type 0 where
  -- begun with the initial states and handed on from chunk to chunk, the last chunk's answer has a final
  -- state exactly where the verdict after the list is yes, and none exactly where it is no
  pub yes_same : (h : List Call) (r : Rule) (us : List (List ℕ)) (w : List ℕ) → Filled h r (us ++ (w ∷ []))
      → ((follow_of r (handed r r.initials us) w).ends ≡ true) ↔ (verdict_in h ≡ yes_with (summed_in h))
  pub no_same : (h : List Call) (r : Rule) (us : List (List ℕ)) (w : List ℕ) → Filled h r (us ++ (w ∷ []))
      → ((follow_of r (handed r r.initials us) w).ends ≡ false) ↔ (verdict_in h ≡ no_with (summed_in h))
  -- what stands on a board is followed too
  pub follows : (h : List Call) (r : Rule) (ws : List (List ℕ)) → Filled h r ws → FollowsAll r ws
  -- a board with that rule on which no place is empty is filled so, and has a last chunk
  pub filled : (h : List Call) (r : Rule) → rule_there h ≡ some r → board_in h ≡ true → empties_in h ≡ 0
      → (us : List (List ℕ)) × (w : List ℕ) × Filled h r (us ++ (w ∷ []))
  -- 1 to 64 chunks that are followed by a rule that installs fill a board
  pub fillings : (r : Rule) → install_number r ≡ none → (ws : List (List ℕ)) → 1 ≤ length ws → length ws ≤ most_places → FollowsAll r ws
      → (h : List Call) × Filled h r ws
  -- following is refused with 3, 4, 6 or 8 exactly where installing is, and with 12 or 13 exactly where a
  -- delivery of the chunk to a place of a board with that rule is
  pub as_installed : (r : Rule) (w : List ℕ) (x : ℕ) → x ≤ 8 → (follow_number r w ≡ some x) ↔ (install_number r ≡ some x)
  pub as_delivered : (h : List Call) (r : Rule) → rule_there h ≡ some r → (p v : ℕ) → p < places_in h → (w : List ℕ)
      → (x : ℕ) → (x ≡ 12) ⊎ (x ≡ 13) → (follow_number r w ≡ some x) ↔ (answer_of h (delivers p v w) ≡ refused x)

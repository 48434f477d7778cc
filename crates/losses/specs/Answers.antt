-- What is answered after a list of calls, computed from the list alone: a search with one test, whether
-- something can still follow a text. That it is what specs/Losses.antt and specs/Spots.antt say of the
-- list is `AnswerClaims`; proofs/Answers.antt proves it.
--
--   can_follow r w        after the text w a state is reached from which the rule r can still accept
--   finding_in h          the diagnosis after the calls h: 21 without a board, else the first place that
--                         is empty, or past whose chunk nothing can follow
--   stuck_from follows b f  from b bytes on, of which f more are there: the first number of bytes
--                         after which nothing can follow
--   spot_at h p w         what is answered after the calls h for the chunk w at place p
use Rattle.std.specs.Prelude.{◌≡◌, Bool, cond, not, List, ℕ, zero, suc, length}
use Rattle.base.specs.Options.{is_none}
use Rattle.masks.specs.Masks.{shares}
use Rattle.automaton.specs.declared.Rule.{Rule}
use Rattle.automaton.specs.Successor.{after}
use Rattle.live.specs.Live.{live_of}
use Rattle.calls.specs.Calls.{Call}
use Rattle.histories.specs.History.{rule_in, board_in, places_in, standing}
use Rattle.histories.specs.Claims.{judge_after}
use Rattle.diagnoses.specs.Diagnosing.{Finding, refused_as, find_from, diagnosis_of}
use Rattle.locating.specs.Locating.{Spot, stuck_after, nowhere, spot_by, spot_of}
use Rattle.losses.specs.Losses.{text_up_to, Diagnosed}
use Rattle.losses.specs.Spots.{spot_number, text_with, Spotted}

abbrev pub can_follow : Rule → List ℕ → Bool
can_follow r w = shares (after r.targets r.initials w) (live_of r)

abbrev pub finding_in : List Call → Finding
finding_in h =
    cond (board_in h)
    (find_from (λ p. is_none (standing h p)) (λ p. not (can_follow (rule_in h) (text_up_to h (suc p)))) 0 (places_in h))
    (refused_as 21)

unfoldable pub stuck_from : (ℕ → Bool) → ℕ → ℕ → Spot
stuck_from follows b zero = cond (follows b) nowhere (stuck_after b)
stuck_from follows b (suc f) = cond (follows b) (stuck_from follows (suc b) f) (stuck_after b)

abbrev pub spot_at : List Call → ℕ → List ℕ → Spot
spot_at h p w = spot_by (spot_number h p w) (stuck_from (λ i. can_follow (rule_in h) (text_with h p w i)) 0 (length w))

pub record AnswerClaims : Type 0 where
  -- they are the list's
  pub finding : (h : List Call) → Diagnosed h (finding_in h)
  pub spot : (h : List Call) (p : ℕ) (w : List ℕ) → Spotted h p w (spot_at h p w)
  -- so the judge that the calls leave answers them
  pub finding_after : (h : List Call) → diagnosis_of (judge_after h) ≡ finding_in h
  pub spot_after : (h : List Call) (p : ℕ) (w : List ℕ) → spot_of (judge_after h) p w ≡ spot_at h p w

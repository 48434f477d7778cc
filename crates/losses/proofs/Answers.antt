-- What specs/Answers.antt computes is what a list of calls says. Assumes nothing.
use mathlib.Core.Path.{◌≡◌, refl, sym}
use mathlib.Core.Bool.{Bool, true, false, not}
use mathlib.Core.List.{List}
use mathlib.Core.Option.{Option, none, some}
use Prim.Native.Nat.{ℕ, zero, suc, ◌+◌, ◌≤◌, ◌<◌}
use native.Mathlib.Omega.{arith}
use lib.ListN.{length}
use borrow.Author.Count.{below_more}
use Rattle.base.specs.Options.{is_none}
use Rattle.base.proofs.Tests.{by_test, not_both}
use Rattle.automaton.specs.declared.Rule.{Rule}
use Rattle.automaton.specs.Rules.{automaton_of, WellFormed}
use Rattle.live.specs.Continued.{Continued}
use Rattle.live.proofs.Claims as live
use Rattle.calls.specs.declared.Judge.{Judge}
use Rattle.calls.specs.Calls.{Call}
use Rattle.histories.specs.History.{rule_there, rule_from, rule_in, board_in, places_in, last_revision, standing}
use Rattle.histories.specs.Claims.{judge_after}
use Rattle.histories.proofs.Agreement.{Agrees}
use Rattle.histories.proofs.EveryList.{good, every_list}
use Rattle.diagnoses.specs.Diagnosing.{Finding, refused_as, lost_at, open_with, find_from}
use Rattle.diagnoses.proofs.Finding.{Found, found}
use Rattle.locating.specs.Locating.{Spot, refused_for, stuck_after, nowhere, spot_by}
use Rattle.losses.specs.Losses.{text_up_to, Diagnosed}
use Rattle.losses.specs.Spots.{spot_number, text_with, Spotted}
use Rattle.losses.specs.Answers.{can_follow, finding_in, stuck_from, spot_at, AnswerClaims}
use Rattle.losses.proofs.Diagnosing.{Says, given, diagnosis}
use Rattle.losses.proofs.Spotting.{SpotSays, given_spot, spot, number-none}

-- ---- what a search by a test finds among n bytes
module _ (follows : ℕ → Bool) where
  abbrev Stuck : ℕ → Spot → Type 0
  Stuck n (refused_for x) = ⊥
  Stuck n (stuck_after b) = (b ≤ n) × (follows b ≡ false) × ((i : ℕ) → i < b → follows i ≡ true)
  Stuck n nowhere = (i : ℕ) → i < n + 1 → follows i ≡ true

  stuck-from : (n f b : ℕ) → b + f ≡ n → ((i : ℕ) → i < b → follows i ≡ true) → Stuck n (stuck_from follows b f)
  unfolding stuck_from
  stuck-from n zero b s before =
      by_test (follows b)
      (λ e. rw e (λ i l. below_more (λ (k : ℕ). follows k ≡ true) b before e i (omega (arith, l, s))))
      (λ e. rw e (omega (arith, s), e, before))
  stuck-from n (suc f) b s before =
      by_test (follows b)
      (λ e. rw e (stuck-from n f (suc b) (omega (arith, s)) (λ i l. below_more (λ (k : ℕ). follows k ≡ true) b before e i (omega (arith, l)))))
      (λ e. rw e (omega (arith, s), e, before))

is-dead : (b : Bool) → not b ≡ true → b ≡ false
is-dead true e = sym e
is-dead false e = refl

is_live : (b : Bool) → not b ≡ false → b ≡ true
is_live true e = refl
is_live false e = sym e

-- ---- where a board is there, a rule is
well-by : (present : Option Rule) (places : ℕ) (at : ℕ → Option (List ℕ)) (last : ℕ → Option ℕ) (j : Judge) → Agrees present places at last j
    → 0 < places → WellFormed (rule_from present)
well-by none places at last j holds l = not_both refl (holds.ruled l)
well-by (some r) places at last j holds l = holds.rule.1

module _ (h : List Call) (there : 0 < places_in h) where
  follow_law : (w : List ℕ) → Continued (automaton_of (rule_in h)) w → can_follow (rule_in h) w ≡ true
  follow_law w = ((live.claims).continued (rule_in h) (well-by (rule_there h) (places_in h) (standing h) (last_revision h) (judge_after h) (good h) there) w).0

  follow-back : (w : List ℕ) → can_follow (rule_in h) w ≡ true → Continued (automaton_of (rule_in h)) w
  follow-back w = ((live.claims).continued (rule_in h) (well-by (rule_there h) (places_in h) (standing h) (last_revision h) (judge_after h) (good h) there) w).1

  finding-says : (f : Finding) → Found (λ p. is_none (standing h p)) (λ p. not (can_follow (rule_in h) (text_up_to h (suc p)))) (places_in h) f
      → Says (automaton_of (rule_in h)) (places_in h) (standing h) f
  finding-says (refused_as x) w = w
  finding-says (lost_at p) w = (
    w.0,
    w.1,
    (λ c. not_both (follow_law (text_up_to h (suc p)) c) (is-dead (can_follow (rule_in h) (text_up_to h (suc p))) w.2)),
    λ i b. follow-back (text_up_to h (suc i)) (is_live (can_follow (rule_in h) (text_up_to h (suc i))) (w.3 i b)),
  )
  finding-says (open_with m) w =
      (w.0, w.1, (λ i b. follow-back (text_up_to h (suc i)) (is_live (can_follow (rule_in h) (text_up_to h (suc i))) (w.2 i b))), w.3)

  spot-says : (p : ℕ) (w : List ℕ) (s : Spot) → Stuck (λ i. can_follow (rule_in h) (text_with h p w i)) (length w) s
      → SpotSays (automaton_of (rule_in h)) (text_up_to h p) w s
  spot-says p w (refused_for x) s = s
  spot-says p w (stuck_after b) s = (s.0, (λ c. not_both (follow_law (text_with h p w b) c) s.1), λ i l. follow-back (text_with h p w i) (s.2 i l))
  spot-says p w nowhere s = λ i l. follow-back (text_with h p w i) (s i (omega (arith, l)))

-- ---- for every list of calls
module _ (h : List Call) where
  abbrev empty : ℕ → Bool
  empty p = is_none (standing h p)

  abbrev dead : ℕ → Bool
  dead p = not (can_follow (rule_in h) (text_up_to h (suc p)))

  finding : Diagnosed h (finding_in h)
  finding =
      let f = find_from empty dead 0 (places_in h) in
      by_test (board_in h)
      (λ b. rw b (given h f b (finding-says h ((every_list h).verdict.board.0 b) f (found empty dead (places_in h)))))
      (λ b. rw b (b, refl))

  module _ (p : ℕ) (w : List ℕ) where
    abbrev follows : ℕ → Bool
    follows i = can_follow (rule_in h) (text_with h p w i)

    by_number : (number : Option ℕ) → spot_number h p w ≡ number → Spotted h p w (spot_by number (stuck_from follows 0 (length w)))
    by_number (some x) e = e
    by_number none e =
        let x = number-none (rule_there h) (places_in h) (standing h) (last_revision h) (judge_after h) (good h) p w e in
        let s = stuck_from follows 0 (length w) in
        given_spot h p w s e (spot-says h (omega (arith, x.0)) p w s (stuck-from follows (length w) (length w) 0 (omega arith) (λ i l. absurd (omega (arith, l)))))

    spotted : Spotted h p w (spot_at h p w)
    spotted = by_number (spot_number h p w) refl

pub answer-claims : AnswerClaims
answer-claims = record {
  finding = finding;
  spot = spotted;
  finding_after = λ h. (diagnosis h (finding_in h)).1 (finding h);
  spot_after = λ h p w. (spot h p w (spot_at h p w)).1 (spotted h p w);
}

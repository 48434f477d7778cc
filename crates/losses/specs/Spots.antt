-- After how many bytes of a chunk a trace is lost, by a list of calls alone. Idle marks count as
-- bytes: a position is one of the caller's buffer.
--
--   spot_number h p w     the number with which it is refused to say: 21, 11, 12, 13, or 23 where a
--                         place before p is empty
--   text_with h p w i     the text of the places before p, with that of the first i bytes of the
--                         chunk w behind it
--   StuckAfter h p w b    nothing can follow the first b bytes, and something can follow fewer
--   Spotted h p w s       s is what the list says
--   RefusedSo h p w       which number it is, condition by condition
--   SpotClaims            what is claimed of it; proofs/Spots.antt proves it
use Rattle.std.specs.Prelude.{◌≡◌, ◌↔◌, ◌⊎◌, true, false, List, ◌++◌, ℕ, suc, ◌≤◌, ◌<◌, eqb, length, get_or, take}
use Rattle.std.proofs.Math.Option.{Option, none, some}
use Rattle.limits.specs.Limits.{longest_chunk}
use Rattle.base.specs.Conditions.{first_of, any_below}
use Rattle.base.specs.Options.{is_none}
use Rattle.marks.specs.Marks.{idle_mark, text_of}
use Rattle.automaton.specs.Automaton.{Text}
use Rattle.automaton.specs.Rules.{automaton_of}
use Rattle.live.specs.Continued.{Continued}
use Rattle.calls.specs.Calls.{Call}
use Rattle.histories.specs.History.{rule_in, board_in, places_in, standing}
use Rattle.histories.specs.Claims.{judge_after}
use Rattle.locating.specs.Locating.{Spot, refused_for, stuck_after, nowhere, locate_conditions, spot_of}
use Rattle.losses.specs.Losses.{text_up_to, FilledAt, Lost, AcceptsNothing}

module _ (h : List Call) (p : ℕ) (w : List ℕ) where
  abbrev pub spot_number : Option ℕ
  spot_number = first_of (locate_conditions (eqb (places_in h) 0) (places_in h) p w (rule_in h).k (any_below (λ i. is_none (standing h i)) p))

  abbrev pub text_with : ℕ → List ℕ
  text_with i = text_up_to h p ++ text_of (take i w)

  pub record StuckAfter (b : ℕ) : Type 0 where
    pub most : b ≤ length w
    pub stuck : Continued (automaton_of (rule_in h)) (text_with b) → ⊥
    pub least : (i : ℕ) → i < b → Continued (automaton_of (rule_in h)) (text_with i)

  abbrev pub Spotted : Spot → Type 0
  Spotted (refused_for x) = spot_number ≡ some x
  Spotted (stuck_after b) = (spot_number ≡ none) × StuckAfter b
  Spotted nowhere = (spot_number ≡ none) × ((i : ℕ) → i ≤ length w → Continued (automaton_of (rule_in h)) (text_with i))

  pub record RefusedSo : Type 0 where
    pub number_21 : (spot_of (judge_after h) p w ≡ refused_for 21) ↔ (board_in h ≡ false)
    pub number_11 : (spot_of (judge_after h) p w ≡ refused_for 11) ↔ ((board_in h ≡ true) × (places_in h ≤ p))
    pub number_12 : (spot_of (judge_after h) p w ≡ refused_for 12) ↔ ((p < places_in h) × (longest_chunk < length w))
    pub number_13 : (spot_of (judge_after h) p w ≡ refused_for 13) ↔ ((p < places_in h) × (length w ≤ longest_chunk) × (Text (rule_in h).k (text_of w) → ⊥))
    pub number_23 : (spot_of (judge_after h) p w ≡ refused_for 23)
        ↔ ((p < places_in h) × (length w ≤ longest_chunk) × Text (rule_in h).k (text_of w) × ((i : ℕ) × (i < p) × (standing h i ≡ none)))
    pub answered : (spot_number ≡ none)
        ↔ ((p < places_in h) × (length w ≤ longest_chunk) × Text (rule_in h).k (text_of w) × ((i : ℕ) → i < p → FilledAt h i))
    pub no_other : (x : ℕ) → spot_of (judge_after h) p w ≡ refused_for x → (x ≡ 21) ⊎ (x ≡ 11) ⊎ (x ≡ 12) ⊎ (x ≡ 13) ⊎ (x ≡ 23)

pub record SpotClaims : Type 0 where
  -- after every list of calls, what is answered is what the list says, and there is only one
  pub spot : (h : List Call) (p : ℕ) (w : List ℕ) (s : Spot) → (spot_of (judge_after h) p w ≡ s) ↔ Spotted h p w s
  -- which number it is refused with
  pub numbers : (h : List Call) (p : ℕ) (w : List ℕ) → RefusedSo h p w
  -- the last of the bytes is no idle mark
  pub no-mark : (h : List Call) (p : ℕ) (w : List ℕ) (b : ℕ) → StuckAfter h p w (suc b) → get_or w b 0 ≡ idle_mark → ⊥
  -- of the chunk that stands at the place where the trace is lost, it says a number of bytes, which
  -- is not 0 at a later place than the first
  pub lost_spot : (h : List Call) (p : ℕ) (w : List ℕ) → Lost h p → standing h p ≡ some w
      → (b : ℕ) × (spot_of (judge_after h) p w ≡ stuck_after b) × StuckAfter h p w b × (0 < p → 0 < b)
  -- of a rule that accepts nothing it is lost after 0 bytes, wherever it is not refused
  pub nothing_spot : (h : List Call) (p : ℕ) (w : List ℕ) → AcceptsNothing h → spot_number h p w ≡ none → spot_of (judge_after h) p w ≡ stuck_after 0

-- What following says, for every checked rule, every set, every chunk and every list of chunks;
-- proofs/Claims.antt proves it. `Continued`, `AcceptsIn` and `CanEnd` are of crates/live.
--
--   LostAt r m w b        b is the least number of bytes of the chunk w, idle marks counted, after
--                         which no text continues it to one over which an accepting run starts in m
--   RefusedExactly r w    which number following is refused with, condition by condition
--   One r m w             what an accepted call answers, from any set m
--   kept_set r m w         the set that the caller holds after a call: the answer's; the old one where
--                         the chunk is refused
--   handed r m ws         the set that is handed on from chunk to chunk, oldest first
--   kept_text, taken_text  the text of the chunks that were not refused, joined
--   Cut n first second whole   `whole` says of a chunk what `first` says of its first n bytes and `second`
--                         of the others, from the set after those
--   PreparedSo r          what preparing the rule r answers, and following by it
--   FollowedSo r ws w     what the answer for chunk w says after the chunks ws, begun with the initial
--                         states
use Rattle.std.specs.Prelude.{◌≡◌, ℕ, suc, ◌+◌, ◌-◌, ◌^◌, ◌<◌, ◌≤◌, true, false, cond, ◌⊎◌, ◌↔◌, List, [], ◌∷◌, ◌++◌, map, length, get_or, take, ◌≢◌, slice_index, slice_index_or}
use mathlib.Core.List.{flatten}
use Rattle.std.proofs.Math.Option.{none, some}
use Rattle.limits.specs.Limits.{longest_chunk}
use Rattle.base.specs.Options.{is_none}
use Rattle.masks.specs.Masks.{◌∈◌}
use Rattle.marks.specs.Marks.{idle_mark, text_of}
use Rattle.automaton.specs.declared.Rule.{Rule}
use Rattle.automaton.specs.Automaton.{Text, Accepts}
use Rattle.automaton.specs.Rules.{automaton_of, WellFormed}
use Rattle.automaton.specs.Successor.{Reached}
use Rattle.rulecheck.specs.Checking.{rule_number}
use Rattle.chunks.specs.Taking.{chunk_number}
use Rattle.delegates.specs.Alike.{Live}
use Rattle.live.specs.Continued.{Continued, AcceptsIn, CanEnd}
use Rattle.follow.specs.Worked.{cases, Answered}
use Rattle.follow.specs.declared.Follower.{Follower}
use Rattle.follow.specs.Following.{follow_number, Outcome, refused_follow, walk_of, follow_of, no_follower, prepare_of, follow_by_of}

-- ---- one call
pub record LostAt (r : Rule) (m : ℕ) (w : List ℕ) (b : ℕ) : Type 0 where
  pub within : b ≤ length w
  pub lost : CanEnd r m (text_of (take b w)) → ⊥
  pub before : (i : ℕ) → i < b → CanEnd r m (text_of (take i w))

pub record RefusedExactly (r : Rule) (w : List ℕ) : Type 0 where
  -- 3, 4, 6 and 8 as installing gives them
  pub checked : (x : ℕ) → x ≤ 8 → (follow_number r w ≡ some x) ↔ (rule_number r ≡ some x)
  pub number_12 : (follow_number r w ≡ some 12) ↔ (WellFormed r × (longest_chunk < length w))
  pub number_13 : (follow_number r w ≡ some 13) ↔ (WellFormed r × (length w ≤ longest_chunk) × (Text r.k (text_of w) → ⊥))
  pub accepted : (follow_number r w ≡ none) ↔ (WellFormed r × (length w ≤ longest_chunk) × Text r.k (text_of w))
  pub no_other : (x : ℕ) → follow_number r w ≡ some x → (x ≤ 8) ⊎ (x ≡ 12) ⊎ (x ≡ 13)

pub record One (r : Rule) (m : ℕ) (w : List ℕ) : Type 0 where
  -- the set of the states that runs over the chunk's text from a state of m lead to
  pub set : m < 2 ^ r.n → (p : ℕ) → p ∈ (follow_of r m w).set ↔ Reached (automaton_of r) m (text_of w) p
  pub ends : ((follow_of r m w).ends ≡ true) ↔ AcceptsIn r m (text_of w)
  -- lost, and where; not lost
  pub lost : (b : ℕ) → ((follow_of r m w).lost ≡ some b) ↔ LostAt r m w b
  pub not_lost : ((follow_of r m w).lost ≡ none) ↔ CanEnd r m (text_of w)
  -- what could have stood there, before byte b; what could come next
  pub expected_there : (b s : ℕ) → (follow_of r m w).lost ≡ some b
      → s ∈ (follow_of r m w).expected ↔ CanEnd r m (text_of (take (b - 1) w) ++ (s ∷ []))
  pub expected_next : (s : ℕ) → (follow_of r m w).lost ≡ none → s ∈ (follow_of r m w).expected ↔ CanEnd r m (text_of w ++ (s ∷ []))
  -- the byte at which it is lost is no idle mark, and is not among the expected symbols
  pub culprit : (b : ℕ) → (follow_of r m w).lost ≡ some (suc b)
      → (b < length w) × (slice_index w b ≢ idle_mark) × (get_or w b 0 ∈ (follow_of r m w).expected → ⊥)
  -- the trace could have ended before that byte: the text up to there is accepted. Where it is not lost,
  -- the text so far; where it was lost before the chunk, never
  pub complete_there : (b : ℕ) → (follow_of r m w).lost ≡ some (suc b) → ((follow_of r m w).complete ≡ true) ↔ AcceptsIn r m (text_of (take b w))
  pub complete_here : (follow_of r m w).lost ≡ none → (follow_of r m w).complete ≡ (follow_of r m w).ends
  pub complete_never : (follow_of r m w).lost ≡ some 0 → (follow_of r m w).complete ≡ false
  -- where nothing is expected, though it is not lost before, the text ends there: it is accepted
  pub only_end : (b : ℕ) → (follow_of r m w).lost ≡ some (suc b) → (follow_of r m w).expected ≡ 0 → AcceptsIn r m (text_of (take b w))
  pub only_end_next : (follow_of r m w).lost ≡ none → (follow_of r m w).expected ≡ 0 → (follow_of r m w).ends ≡ true

-- ---- from chunk to chunk
module _ (r : Rule) where
  abbrev pub kept_set : ℕ → List ℕ → ℕ
  kept_set m w = cond (is_none (follow_number r w)) (follow_of r m w).set m

  abbrev pub handed : ℕ → List (List ℕ) → ℕ
  handed m [] = m
  handed m (w ∷ ws) = handed (kept_set m w) ws

  abbrev pub kept_text : List ℕ → List ℕ
  kept_text w = cond (is_none (follow_number r w)) (text_of w) []

  abbrev pub taken_text : List (List ℕ) → List ℕ
  taken_text ws = flatten (map kept_text ws)

  module _ (ws : List (List ℕ)) (w : List ℕ) where
    pub record FollowedSo : Type 0 where
      -- the set is the reached one over the joined text, and it has a final state exactly where the
      -- rule accepts that text
      pub set : (p : ℕ) → p ∈ (follow_of r (handed r.initials ws) w).set ↔ Reached (automaton_of r) r.initials (taken_text ws ++ text_of w) p
      pub ends : ((follow_of r (handed r.initials ws) w).ends ≡ true) ↔ Accepts (automaton_of r) (taken_text ws ++ text_of w)
      -- lost at b: the text up to there has no continuation that the rule accepts, and each that is
      -- shorter by bytes of this chunk has one
      pub lost : (b : ℕ) → ((follow_of r (handed r.initials ws) w).lost ≡ some b)
          ↔ ((b ≤ length w) × (Continued (automaton_of r) (taken_text ws ++ text_of (take b w)) → ⊥) × ((i : ℕ) → i < b → Continued (automaton_of r) (taken_text ws ++ text_of (take i w))))
      pub not_lost : ((follow_of r (handed r.initials ws) w).lost ≡ none) ↔ Continued (automaton_of r) (taken_text ws ++ text_of w)
      -- and so does each shorter text from the very beginning, where it is lost by a byte of this chunk
      pub every_shorter : (b : ℕ) → (follow_of r (handed r.initials ws) w).lost ≡ some (suc b)
          → (v u : List ℕ) → taken_text ws ++ text_of (take b w) ≡ v ++ u → Continued (automaton_of r) v
      -- symbol s could have stood there, and could come next
      pub expected_there : (b s : ℕ) → (follow_of r (handed r.initials ws) w).lost ≡ some b
          → s ∈ (follow_of r (handed r.initials ws) w).expected ↔ Continued (automaton_of r) (taken_text ws ++ (text_of (take (b - 1) w) ++ (s ∷ [])))
      pub expected_next : (s : ℕ) → (follow_of r (handed r.initials ws) w).lost ≡ none
          → s ∈ (follow_of r (handed r.initials ws) w).expected ↔ Continued (automaton_of r) (taken_text ws ++ (text_of w ++ (s ∷ [])))
      -- the end could have stood there, and can stand here
      pub complete_there : (b : ℕ) → (follow_of r (handed r.initials ws) w).lost ≡ some (suc b)
          → ((follow_of r (handed r.initials ws) w).complete ≡ true) ↔ Accepts (automaton_of r) (taken_text ws ++ text_of (take b w))
      pub complete_here : (follow_of r (handed r.initials ws) w).lost ≡ none
          → ((follow_of r (handed r.initials ws) w).complete ≡ true) ↔ Accepts (automaton_of r) (taken_text ws ++ text_of w)

-- ---- where the trace is cut does not matter
pub record Cut (n : ℕ) (first second whole : Outcome) : Type 0 where
  pub set : whole.set ≡ second.set
  pub ends : whole.ends ≡ second.ends
  -- lost in the first part, in the second, in neither
  pub in_first_lem : (b : ℕ) → first.lost ≡ some b
      → (whole.lost ≡ some b) × (whole.expected ≡ first.expected) × (whole.complete ≡ first.complete)
  pub in_second_lem : (c : ℕ) → first.lost ≡ none → second.lost ≡ some c
      → (0 < c) × (whole.lost ≡ some (n + c)) × (whole.expected ≡ second.expected) × (whole.complete ≡ second.complete)
  pub in_neither : first.lost ≡ none → second.lost ≡ none
      → (whole.lost ≡ none) × (whole.expected ≡ second.expected) × (whole.complete ≡ second.complete)

-- ---- a rule that is checked once
pub record PreparedSo (r : Rule) : Type 0 where
  -- refused with 3, 4, 6 or 8 as installing is, and then zeros
  pub refused : (x : ℕ) → ((prepare_of r).refusal ≡ some x) ↔ (rule_number r ≡ some x)
  pub zeros : (x : ℕ) → (prepare_of r).refusal ≡ some x → (prepare_of r).follower ≡ no_follower
  -- accepted exactly where the rule is well-formed: its follower has the rule itself
  pub accepted : ((prepare_of r).refusal ≡ none) ↔ WellFormed r
  pub carries : (prepare_of r).refusal ≡ none → (prepare_of r).follower.rule ≡ r
  -- following by it is following by the rule, in every answer
  pub same : (prepare_of r).refusal ≡ none → (m : ℕ) (w : List ℕ) → follow_by_of (prepare_of r).follower m w ≡ follow_of r m w

pub record Claims : Type 0 where
  -- chunks worked by hand
  pub answered : Answered cases
  -- refusals: which number; it carries zeros
  pub numbers : (r : Rule) (w : List ℕ) → RefusedExactly r w
  pub refused : (r : Rule) (m : ℕ) (w : List ℕ) (x : ℕ) → (follow_of r m w ≡ refused_follow x) ↔ (follow_number r w ≡ some x)
  pub accepted : (r : Rule) (m : ℕ) (w : List ℕ) → follow_number r w ≡ none → follow_of r m w ≡ walk_of r m w
  -- a rule that is checked once; by any follower, the chunk is refused as its k says
  pub prepared : (r : Rule) → PreparedSo r
  pub by_any : (f : Follower) (m : ℕ) (w : List ℕ) → (follow_by_of f m w).refusal ≡ chunk_number f.rule.k w
  -- its follower has the states from which a final state can be reached
  pub lives : (r : Rule) → (prepare_of r).refusal ≡ none → (q : ℕ) → q ∈ (prepare_of r).follower.live ↔ Live (automaton_of r) q
  -- where the trace is cut does not matter: a chunk u ++ w is followed as u and then w, and so is one of
  -- any length, which `walk_of` answers
  pub followed_cut : (r : Rule) (m : ℕ) (u w : List ℕ) → follow_number r (u ++ w) ≡ none
      → Cut (length u) (follow_of r m u) (follow_of r (follow_of r m u).set w) (follow_of r m (u ++ w))
  pub cut : (r : Rule) → WellFormed r → (m : ℕ) (u w : List ℕ) → Cut (length u) (walk_of r m u) (walk_of r (walk_of r m u).set w) (walk_of r m (u ++ w))
  -- one call, from any set; from chunk to chunk
  pub one : (r : Rule) (m : ℕ) (w : List ℕ) → follow_number r w ≡ none → One r m w
  pub followed : (r : Rule) (ws : List (List ℕ)) (w : List ℕ) → follow_number r w ≡ none → FollowedSo r ws w
  -- once lost, lost for good: whatever comes after, the next chunk is lost at its byte 0, nothing is
  -- expected, there is no final state, and the trace could not have ended there
  pub for_good : (r : Rule) (m : ℕ) (w : List ℕ) (b : ℕ) → (follow_of r m w).lost ≡ some b → (ws : List (List ℕ)) (x : List ℕ) → follow_number r x ≡ none
      → ((follow_of r (handed r (follow_of r m w).set ws) x).lost ≡ some 0)
      × ((follow_of r (handed r (follow_of r m w).set ws) x).expected ≡ 0)
      × ((follow_of r (handed r (follow_of r m w).set ws) x).ends ≡ false)
      × ((follow_of r (handed r (follow_of r m w).set ws) x).complete ≡ false)
  -- bits at n and above mean nothing: two sets with the same states are followed alike, and lead to
  -- sets with the same states
  pub means_nothing : (r : Rule) (l m : ℕ) (w : List ℕ) → ((q : ℕ) → q < r.n → (q ∈ l) ↔ (q ∈ m))
      → ((follow_of r l w).ends ≡ (follow_of r m w).ends) × ((follow_of r l w).lost ≡ (follow_of r m w).lost)
      × ((follow_of r l w).expected ≡ (follow_of r m w).expected) × ((follow_of r l w).complete ≡ (follow_of r m w).complete)
      × ((q : ℕ) → q < r.n → (q ∈ (follow_of r l w).set) ↔ (q ∈ (follow_of r m w).set))
  -- where no chunk is refused, the text is the chunks' texts joined
  pub all_taken : (r : Rule) (ws : List (List ℕ)) → ((i : ℕ) → i < length ws → follow_number r (slice_index_or ws i []) ≡ none)
      → taken_text r ws ≡ flatten (map text_of ws)

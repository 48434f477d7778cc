-- Following a trace that comes in order: what one call answers, over the targets `ts` of a rule, from
-- any set of states. `live` is the mask of the states from which a final state can be reached.
--
--   set_after ts m w       the set after the text of the chunk w, which skips idle marks, from m
--   least_below t n        the least number below n that passes the test t, none where none does
--   lost_by ts live m w    the least number of bytes of the chunk w, idle marks counted, after which
--                          no state of `live` is in the set; none where one is to the end
--   place_of o w            how many bytes stand before the one at which the chunk w is lost; all
--                          where it is not
--   next_by ts live k m    the mask of the symbols below k by which the set m leads to a state of
--                          `live`
--   Walk, way_of, way_outcome  where a chunk is lost, the set before that byte and the set after all;
--                          and what the code's value stands for
--   follow_number r w      the number with which following is refused: those of a checked rule (3, 4,
--                          6, 8), then those of a chunk (12, 13)
--   Outcome                the answer, every field
--   refused_follow x       refused with the number x: zeros
--   follow_outcome         what each case of the code's result stands for
--   walk_by ts finals live k m w  accepted: the set after the chunk, whether a final state is in it,
--                          where it is lost, the symbols expected there, or next, and whether the
--                          trace could have ended there, or can here: the set before that byte has a
--                          final state
--   walk_of r m w           the same by the rule r
--   follow_of r m w        what following the chunk w from the set m answers
--   follower_of r          the follower of the rule r: the rule, and its mask of live states
--   prepare_of r           what preparing the rule r answers: refused with 3, 4, 6 or 8, and zeros
--                          (no_follower); or its follower
--   follow_by_of f m w     what following by the follower f answers, in which any numbers may stand:
--                          refused with 12 or 13 by its k, or walk_by of its numbers
use Rattle.std.specs.Prelude.{Result, Ok, Err, ℕ, zero, suc, ◌-◌, Bool, false, cond, not, List, ◌++◌, length, take}
use Rattle.std.proofs.Math.Option.{Option, none, some}
use Rattle.base.specs.declared.Refusal.{Refusal}
use Rattle.base.specs.Answers.{refusal_number}
use Rattle.base.specs.Options.{option_of}
use Rattle.base.specs.Conditions.{first_of}
use Rattle.masks.specs.Masks.{shares, mask_of}
use Rattle.marks.specs.Marks.{text_of}
use Rattle.automaton.specs.declared.Rule.{Rule}
use Rattle.automaton.specs.Successor.{successor, after}
use Rattle.rulecheck.specs.Checking.{rule_conditions, rule_number}
use Rattle.ruleformat.specs.Reader.{no_rule}
use Rattle.chunks.specs.Taking.{chunk_conditions, chunk_number}
use Rattle.follow.specs.declared.Followed.{Followed}
use Rattle.follow.specs.declared.Follower.{Follower}
use Rattle.follow.specs.declared.Way.{Way}
use Rattle.live.specs.Live.{live_of}

-- ---- the set, and where it is lost
abbrev pub set_after : List ℕ → ℕ → List ℕ → ℕ
set_after ts m w = after ts m (text_of w)

abbrev pub or_here : Option ℕ → Bool → ℕ → Option ℕ
or_here none here i = cond here (some i) none
or_here (some x) here i = some x

unfoldable pub least_below : (ℕ → Bool) → ℕ → Option ℕ
least_below t zero = none
least_below t (suc i) = or_here (least_below t i) (t i) i

abbrev pub lost_by : List ℕ → ℕ → ℕ → List ℕ → Option ℕ
lost_by ts live m w = least_below (λ i. not (shares (set_after ts m (take i w)) live)) (suc (length w))

abbrev pub place_of : Option ℕ → List ℕ → ℕ
place_of none w = length w
place_of (some b) w = b - 1

abbrev pub next_by : List ℕ → ℕ → ℕ → ℕ → ℕ
next_by ts live k m = mask_of (λ s. shares (successor ts m s) live) k

-- ---- where it is lost, and the sets
pub record Walk : Type 0 where
  pub lost : Option ℕ
  pub before : ℕ
  pub set : ℕ

abbrev pub way_of : List ℕ → ℕ → ℕ → List ℕ → Walk
way_of ts live m w =
    let o = lost_by ts live m w in
    record { lost = o; before = set_after ts m (take (place_of o w) w); set = set_after ts m w }

abbrev pub way_outcome : Way → Walk
way_outcome y = record { lost = option_of y.lost; before = y.before; set = y.set }

-- ---- the answer
unfoldable pub follow_number : Rule → List ℕ → Option ℕ
follow_number r w = first_of (rule_conditions r ++ chunk_conditions r.k w)

pub record Outcome : Type 0 where
  pub refusal : Option ℕ
  pub set : ℕ
  pub ends : Bool
  pub lost : Option ℕ
  pub expected : ℕ
  pub complete : Bool

abbrev pub refused_follow : ℕ → Outcome
refused_follow number = record { refusal = some number; set = 0; ends = false; lost = none; expected = 0; complete = false }

abbrev pub follow_outcome : Result Followed Refusal → Outcome
follow_outcome (Ok f) = record {
  refusal = none;
  set = f.set;
  ends = f.ends;
  lost = option_of f.lost;
  expected = f.expected;
  complete = f.complete;
}
follow_outcome (Err refusal) = refused_follow (refusal_number refusal)

abbrev pub walk_by : List ℕ → ℕ → ℕ → ℕ → ℕ → List ℕ → Outcome
walk_by ts finals live k m w =
    let y = way_of ts live m w in
    record {
      refusal = none;
      set = y.set;
      ends = shares y.set finals;
      lost = y.lost;
      expected = next_by ts live k y.before;
      complete = shares y.before finals;
    }

abbrev pub walk_of : Rule → ℕ → List ℕ → Outcome
walk_of r m w = walk_by r.targets r.finals (live_of r) r.k m w

abbrev pub taken_by : Option ℕ → Outcome → Outcome
taken_by none o = o
taken_by (some number) o = refused_follow number

unfoldable pub follow_of : Rule → ℕ → List ℕ → Outcome
follow_of r m w = taken_by (follow_number r w) (walk_of r m w)

-- ---- a rule that is checked once
abbrev pub follower_of : Rule → Follower
follower_of r = record { rule = r; live = live_of r }

abbrev pub no_follower : Follower
no_follower = record { rule = no_rule; live = 0 }

pub record Prepared : Type 0 where
  pub refusal : Option ℕ
  pub follower : Follower

abbrev pub prepare_outcome : Result Follower Refusal → Prepared
prepare_outcome (Ok follower) = record { refusal = none; follower = follower }
prepare_outcome (Err refusal) = record { refusal = some (refusal_number refusal); follower = no_follower }

abbrev pub prepare_by : Option ℕ → Rule → Prepared
prepare_by none r = record { refusal = none; follower = follower_of r }
prepare_by (some number) r = record { refusal = some number; follower = no_follower }

abbrev pub prepare_of : Rule → Prepared
prepare_of r = prepare_by (rule_number r) r

abbrev pub lent_of : List ℕ → ℕ → ℕ → ℕ → ℕ → List ℕ → Outcome
lent_of ts finals live k m w = taken_by (chunk_number k w) (walk_by ts finals live k m w)

unfoldable pub follow_by_of : Follower → ℕ → List ℕ → Outcome
follow_by_of f m w = lent_of f.rule.targets f.rule.finals f.live f.rule.k m w

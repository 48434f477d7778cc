-- The calls of a trace follower, which holds at most one rule, with the set that its trace has
-- reached; what each is answered on any state, and the state that it leaves.
--
--   Call               of a trace follower
--     forgets          the rule and its trace are forgotten
--     begins f         a trace begins by the rule in the file f; refused, all stays as it was
--     follows w        the next chunk w of the trace; refused, all stays as it was
--   Reply              to a call
--     forgotten        the rule was forgotten
--     begun            the rule was taken
--     going e m        the trace is not lost; e says whether it is accepted so far; the symbols of the
--                      mask m could come next
--     lost_at b m      it is lost at byte b of this chunk, where those of m could have stood
--     refused x        refused with the number x
--   FollowState        a follower and a set: no rule where the follower's rule has no states
--   none_yet           no rule
--   follower_in f      the rule in the file f, read (1 to 8) and prepared
--   followed_by        what a chunk is answered, from what following it answers
--   reply_of s c       what the call c is answered on the state s; 20 is for a chunk without a rule
--   next_of s c         the state that it leaves
--   follow_machine     both, from no rule on
--   Outcome, call_step s c  both in one; none stands where a line is no call
--   answer_means, traced_means  what each case of the code's answer says, and the code's result
use Rattle.std.specs.Prelude.{Bool, true, false, cond, List, ℕ, eqb}
use Rattle.std.proofs.Math.Option.{Option, none, some}
use Rattle.base.specs.Answers.{refusal_number}
use Rattle.executions.specs.Executions.{Machine}
use Rattle.ruleformat.specs.Refusals.{refusal}
use Rattle.ruleformat.specs.Reader.{rule_of}
use Rattle.follow.specs.Following.{Outcome as Following, Prepared, no_follower, prepare_of, follow_by_of}
use Rattle.followcalls.specs.declared.FollowState.{FollowState}
use Rattle.followcalls.specs.declared.TraceAnswer.{TraceAnswer}
use Rattle.followcalls.specs.declared.TraceAnswer.TheVariants.{Forgotten, Begun, Yes, No, Lost, Refused, Malformed}
use Rattle.followcalls.specs.declared.Traced.{Traced}

pub data Call : Type 0 where
  forgets : Call
  begins : List ℕ → Call
  follows : List ℕ → Call

pub data Reply : Type 0 where
  forgotten : Reply
  begun : Reply
  going : Bool → ℕ → Reply
  lost_at : ℕ → ℕ → Reply
  refused : ℕ → Reply

abbrev pub none_yet : FollowState
none_yet = record { follower = no_follower; set = 0 }

-- ---- a rule
abbrev pub follower_by : Option ℕ → List ℕ → Prepared
follower_by none f = prepare_of (rule_of f)
follower_by (some x) f = record { refusal = some x; follower = no_follower }

abbrev pub follower_in : List ℕ → Prepared
follower_in f = follower_by (refusal f) f

abbrev pub begun_reply : Option ℕ → Reply
begun_reply none = begun
begun_reply (some x) = refused x

abbrev pub begun_state : Option ℕ → Prepared → FollowState → FollowState
begun_state none p s = record { follower = p.follower; set = p.follower.rule.initials }
begun_state (some x) p s = s

-- ---- a chunk
abbrev pub followed_by : Option ℕ → Option ℕ → Bool → ℕ → Reply
followed_by (some x) lost ends m = refused x
followed_by none (some b) ends m = lost_at b m
followed_by none none ends m = going ends m

abbrev pub followed_reply : Following → Reply
followed_reply o = followed_by o.refusal o.lost o.ends o.expected

abbrev pub followed_state : Option ℕ → ℕ → FollowState → FollowState
followed_state none m s = record { follower = s.follower; set = m }
followed_state (some x) m s = s

abbrev pub lacks_rule : FollowState → Bool
lacks_rule s = eqb s.follower.rule.n 0

abbrev pub following_of : FollowState → List ℕ → Following
following_of s w = follow_by_of s.follower s.set w

-- ---- all calls
unfoldable pub reply_of : FollowState → Call → Reply
reply_of s forgets = forgotten
reply_of s (begins f) = begun_reply (follower_in f).refusal
reply_of s (follows w) = cond (lacks_rule s) (refused 20) (followed_reply (following_of s w))

unfoldable pub next_of : FollowState → Call → FollowState
next_of s forgets = none_yet
next_of s (begins f) = begun_state (follower_in f).refusal (follower_in f) s
next_of s (follows w) = cond (lacks_rule s) s (followed_state (following_of s w).refusal (following_of s w).set s)

abbrev pub follow_machine : Machine FollowState Call Reply
follow_machine = record { fresh = none_yet; reply = reply_of; next = next_of }

pub record Outcome : Type 0 where
  pub reply : Option Reply
  pub state : FollowState

abbrev pub call_step : FollowState → Call → Outcome
call_step s c = record { reply = some (reply_of s c); state = next_of s c }

-- ---- what the code answers
abbrev pub answer_means : TraceAnswer → Option Reply
answer_means Forgotten = some forgotten
answer_means Begun = some begun
answer_means (Yes m) = some (going true m)
answer_means (No m) = some (going false m)
answer_means (Lost b m) = some (lost_at b m)
answer_means (Refused x) = some (refused (refusal_number x))
answer_means Malformed = none

abbrev pub traced_means : Traced → Outcome
traced_means r = record { reply = answer_means r.answer; state = r.state }

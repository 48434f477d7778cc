-- A file or a chunk that is too long is refused by its length alone, so the first of its bytes stand
-- for all. Assumes nothing.
--
--   step_long     two that are too long come to the same
--   clip          the first bytes, one more than a chunk has at most, come to what all of them do
use mathlib.Core.Path.{◌≡◌, refl, sym, ap, ◌∙◌}
use mathlib.Core.Bool.{Bool, true, false, cond}
use mathlib.Core.List.{List}
use mathlib.Core.Option.{Option, some}
use Prim.Native.Nat.{ℕ, ◌≤◌, ◌<◌}
use native.Mathlib.Omega.{arith}
use borrow.Author.Tests.{ltb-true, ltb-false}
use lib.Dec.{ltb}
use lib.ListN.{length, take}
use lib.Seq.{take_all, length-take-le}
use Rattle.base.proofs.Tests.{by_test}
use Rattle.ruleformat.specs.Refusals.{refusal}
use Rattle.ruleformat.proofs.Refused.{from_1, not_short, long as file_long}
use Rattle.follow.specs.declared.Follower.{Follower}
use Rattle.follow.specs.Following.{Outcome as Following, refused_follow, follow_by_of}
use Rattle.follow.proofs.Ways.{long}
use Rattle.followcalls.specs.declared.FollowState.{FollowState}
use Rattle.followcalls.specs.Calls.{refused, follower_by, begun_reply, begun_state, followed_reply, followed_state, lacks_rule, reply_of, next_of, Outcome, call_step}
use Rattle.followlines.specs.Lines.{call_of}

long_refused : (f : List ℕ) → 65536 < length f → refusal f ≡ some 2
long_refused f h = from_1 f ∙ rw (not_short f (omega arith), file_long f (omega arith))

chunk_refused : (p : Follower) (m : ℕ) (w : List ℕ) → 65536 < length w → follow_by_of p m w ≡ refused_follow 12
unfolding follow_by_of
chunk_refused p m w h = sym (long p.rule.targets p.rule.finals p.live p.rule.k m w h)

module _ (s : FollowState) where
  abbrev too_long : Bool → Outcome
  too_long true = record { reply = some (refused 2); state = s }
  too_long false = record { reply = some (cond (lacks_rule s) (refused 20) (refused 12)); state = s }

  same : (b : Bool) → cond b s s ≡ s
  same true = refl
  same false = refl

  long_is : (rule : Bool) (b : List ℕ) → 65536 < length b → call_step s (call_of rule b) ≡ too_long rule
  unfolding reply_of next_of
  long_is true f h =
      ap (λ (o : Option ℕ). record { reply = some (begun_reply (follower_by o f).refusal); state = begun_state (follower_by o f).refusal (follower_by o f) s }) (long_refused f h)
  long_is false w h =
      ap (λ (o : Following). record { reply = some (cond (lacks_rule s) (refused 20) (followed_reply o)); state = cond (lacks_rule s) s (followed_state o.refusal o.set s) }) (chunk_refused s.follower s.set w h)
      ∙ ap (λ (t : FollowState). record { reply = some (cond (lacks_rule s) (refused 20) (refused 12)); state = t }) (same (lacks_rule s))

  pub step_long : (rule : Bool) (f g : List ℕ) → 65536 < length f → 65536 < length g → call_step s (call_of rule f) ≡ call_step s (call_of rule g)
  step_long rule f g hf hg = long_is rule f hf ∙ sym (long_is rule g hg)

  pub clip : (rule : Bool) (f : List ℕ) (n : ℕ) → 65537 ≤ n → call_step s (call_of rule (take n f)) ≡ call_step s (call_of rule f)
  clip rule f n enough =
      by_test (ltb n (length f))
      (λ t.
      let more = ltb-true n (length f) t in
      step_long rule (take n f) f (omega (arith, length-take-le n f (omega (arith, more)))) (omega (arith, more)))
      (λ t. ap (λ (x : List ℕ). call_step s (call_of rule x)) (take_all n f (ltb-false n (length f) t)))

-- What the functions answer is what the definitions say, a lemma for each way out. Assumes nothing.
--
--   fresh-is                    no rule
--   unread, was_read            a file that reading refuses, and one that it accepts
--   begin_refused, begin_taken  a rule that is refused, and one that is taken
--   said_lost, said_yes, said_no   what a chunk that was followed is answered
--   next_lacks, next_refused, next_taken   a chunk without a rule, one refused, one followed
use mathlib.Core.Path.{◌≡◌, refl, sym, ap, ◌∙◌}
use mathlib.Core.Bool.{Bool, true, false, cond}
use mathlib.Core.List.{List}
use mathlib.Core.Option.{Option, none, some}
use Prim.Native.Nat.{ℕ}
use borrow.Author.Tests.{eq-eqb, ne_eqb}
use Rattle.std.proofs.Common.{Ok, Err}
use Rattle.std.specs.Prelude as code
use Rattle.base.specs.declared.Refusal.{Refusal}
use Rattle.base.specs.Answers.{refusal_number}
use Rattle.base.specs.Options.{option_of}
use Rattle.automaton.specs.declared.Rule.{Rule}
use Rattle.ruleformat.specs.Refusals.{refusal}
use Rattle.ruleformat.specs.Reader.{Reading, read_outcome, read_of, rule_by, rule_of, no_rule}
use Rattle.follow.specs.declared.Follower.{Follower}
use Rattle.follow.specs.declared.Followed.{Followed}
use Rattle.follow.specs.Following.{Outcome as Following, Prepared, follow_outcome, prepare_outcome, prepare_of, follow_by_of}
use Rattle.followcalls.specs.declared.FollowState.{FollowState}
use Rattle.followcalls.specs.Calls.{begins, follows, Reply, going, lost_at, refused, begun, none_yet, follower_by, follower_in, begun_reply, begun_state, followed_by, followed_reply, followed_state, lacks_rule, reply_of, next_of, Outcome, call_step}

pub fresh-is : (z : Rule) → z ≡ no_rule → record { follower = record { rule = z; live = 0 }; set = 0 } ≡ none_yet
fresh-is z e = ap (λ (x : Rule). record { follower = record { rule = x; live = 0 }; set = 0 }) e

-- ---- a rule
module _ (f : List ℕ) where
  by_number : {o : Option ℕ} {p : Prepared} → refusal f ≡ o → p ≡ follower_by o f → p ≡ follower_in f
  by_number e l = l ∙ sym (ap (λ (n : Option ℕ). follower_by n f) e)

  pub unread : (e : Refusal) → read_outcome (Err e) ≡ read_of f → prepare_outcome (Err e) ≡ follower_in f
  unread e is = by_number (sym (ap (λ (x : Reading). x.number) is)) refl

  pub was_read : (r : Rule) → read_outcome (Ok r) ≡ read_of f → (p : Prepared) → p ≡ prepare_of r → p ≡ follower_in f
  was_read r is p l =
      let n : refusal f ≡ none = sym (ap (λ (x : Reading). x.number) is) in
      let rule : r ≡ rule_of f = ap (λ (x : Reading). x.rule) is ∙ ap (λ (x : Option ℕ). rule_by x f) n in
      by_number n (l ∙ ap prepare_of rule)

module _ (s : FollowState) (f : List ℕ) where
  begun_with : (p : Prepared) → p ≡ follower_in f
      → record { reply = some (begun_reply p.refusal); state = begun_state p.refusal p s } ≡ call_step s (begins f)
  unfolding reply_of next_of
  begun_with p is = ap (λ (q : Prepared). record { reply = some (begun_reply q.refusal); state = begun_state q.refusal q s }) is

  pub begin_refused : (e : Refusal) → prepare_outcome (Err e) ≡ follower_in f
      → record { reply = some (refused (refusal_number e)); state = s } ≡ call_step s (begins f)
  begin_refused e is = begun_with (prepare_outcome (Err e)) is

  pub begin_taken : (p : Follower) → prepare_outcome (Ok p) ≡ follower_in f
      → record { reply = some begun; state = record { follower = p; set = p.rule.initials } } ≡ call_step s (begins f)
  begin_taken p is = begun_with (prepare_outcome (Ok p)) is

-- ---- a chunk that was followed
module _ (l : code.Option ℕ) (e : Bool) (m : ℕ) where
  abbrev said_by : code.Option ℕ → Bool → Option Reply
  said_by x y = some (followed_by none (option_of x) y m)

  pub said_lost : (b : ℕ) → l ≡ code.Some b → some (lost_at b m) ≡ said_by l e
  said_lost b is = ap (λ (x : code.Option ℕ). said_by x e) (sym is)

  module _ (is : l ≡ code.None) where
    said_going : {y : Bool} → e ≡ y → some (going y m) ≡ said_by l e
    said_going w = ap (λ (y : Bool). some (going y m)) (sym w) ∙ ap (λ (x : code.Option ℕ). said_by x e) (sym is)

    pub said_yes : e ≡ true → some (going true m) ≡ said_by l e
    said_yes w = said_going w

    pub said_no : e ≡ false → some (going false m) ≡ said_by l e
    said_no w = said_going w

-- ---- the next chunk
module _ (s : FollowState) (w : List ℕ) where
  abbrev way_by : Bool → Following → Outcome
  way_by b o = record { reply = some (cond b (refused 20) (followed_reply o)); state = cond b s (followed_state o.refusal o.set s) }

  by_rule : {b : Bool} → lacks_rule s ≡ b → way_by b (follow_by_of s.follower s.set w) ≡ call_step s (follows w)
  unfolding reply_of next_of
  by_rule e = ap (λ (b : Bool). way_by b (follow_by_of s.follower s.set w)) (sym e)

  pub next_lacks : s.follower.rule.n ≡ 0 → record { reply = some (refused 20); state = s } ≡ call_step s (follows w)
  next_lacks e = by_rule (eq-eqb s.follower.rule.n 0 e)

  module _ (there : s.follower.rule.n ≡ 0 → ⊥) where
    by_answer : (o : Following) → o ≡ follow_by_of s.follower s.set w → way_by false o ≡ call_step s (follows w)
    by_answer o is = ap (way_by false) is ∙ by_rule (ne_eqb s.follower.rule.n 0 there)

    pub next_refused : (e : Refusal) → follow_outcome (Err e) ≡ follow_by_of s.follower s.set w
        → record { reply = some (refused (refusal_number e)); state = s } ≡ call_step s (follows w)
    next_refused e is = by_answer (follow_outcome (Err e)) is

    pub next_taken : (r : Followed) → follow_outcome (Ok r) ≡ follow_by_of s.follower s.set w
        → (a : Option Reply) → a ≡ some (followed_by none (option_of r.lost) r.ends r.expected)
        → record { reply = a; state = record { follower = s.follower; set = r.set } } ≡ call_step s (follows w)
    next_taken r is a l =
        ap (λ (x : Option Reply). record { reply = x; state = record { follower = s.follower; set = r.set } }) l ∙ by_answer (follow_outcome (Ok r)) is

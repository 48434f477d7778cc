-- The contracts of the functions that follow a trace, for C, fix every number of a result; and whoever
-- prepares a rule and follows by it gets what following by the rule gives. Assumes nothing.
use mathlib.Core.Path.{◌≡◌, refl, sym, ap, ◌∙◌}
use mathlib.Core.Logic.{◌↔◌}
use mathlib.Core.List.{List, []}
use mathlib.Core.Option.{none}
use Prim.Native.Nat.{ℕ}
use Rattle.automaton.specs.declared.Rule.{Rule}
use Rattle.histories.proofs.Refinement.{lent}
use Rattle.follow.specs.declared.Follower.{Follower}
use Rattle.follow.specs.Following.{follow_of, prepare_of, follow_by_of}
use Rattle.follow.proofs.Claims as follow
use Rattle.c_follow.specs.declared.FollowNumbers.{FollowNumbers}
use Rattle.c_follow.specs.declared.FollowerNumbers.{FollowerNumbers}
use Rattle.c_follow.specs.Numbers.{follow_shown, prepare_shown}
use Rattle.c_follow.proofs.ReadBack as c_follow
use Rattle.requests.specs.FollowFunctions.{MayFollowC, MayPrepareC, MayFollowByC}

pub follow_fixed : (r : Rule) (m : ℕ) (w : List ℕ) (n : FollowNumbers) → MayFollowC r m w n ↔ n ≡ follow_shown (follow_of r m w)
follow_fixed r m w n = (
  (λ x. x.4 ∙ ap (λ (v : List ℕ). follow_shown (follow_of r m v)) x.3),
  λ e. (([], tt), lent w, (r, (m, (lent w, tt))), refl, e),
)

pub prepare_fixed : (r : Rule) (n : FollowerNumbers) → MayPrepareC r n ↔ n ≡ prepare_shown (prepare_of r)
prepare_fixed r n = ((λ x. x.1), λ e. ((r, tt), e))

pub by_fixed : (f : Follower) (m : ℕ) (w : List ℕ) (n : FollowNumbers) → MayFollowByC f m w n ↔ n ≡ follow_shown (follow_by_of f m w)
by_fixed f m w n = (
  (λ x. x.4 ∙ ap (λ (v : List ℕ). follow_shown (follow_by_of f m v)) x.3),
  λ e. (([], tt), lent w, (f, (m, (lent w, tt))), refl, e),
)

pub same_by : (r : Rule) (p : FollowerNumbers) → MayPrepareC r p → p.accepted ≡ 1
    → (m : ℕ) (w : List ℕ) (n : FollowNumbers) → MayFollowByC p.follower m w n ↔ MayFollowC r m w n
same_by r p may accepted m w n =
    let is = (prepare_fixed r p).0 may in
    let taken : (prepare_of r).refusal ≡ none = ((c_follow.claims).prepared_flags (prepare_of r)).accepted_exactly.0 (sym (ap (λ (x : FollowerNumbers). x.accepted) is) ∙ accepted) in
    let same : follow_by_of p.follower m w ≡ follow_of r m w =
    ap (λ (x : FollowerNumbers). follow_by_of x.follower m w) is ∙ ((follow.claims).prepared r).same taken m w in (
      (λ x. (follow_fixed r m w n).1 ((by_fixed p.follower m w n).0 x ∙ ap follow_shown same)),
      λ x. (by_fixed p.follower m w n).1 ((follow_fixed r m w n).0 x ∙ ap follow_shown (sym same)),
    )

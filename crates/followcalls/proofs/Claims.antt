-- The claims of specs/Claims.antt: what crates/follow says from chunk to chunk, of the last accepted
-- rule and the chunks since it. Assumes nothing.
use mathlib.Core.Path.{◌≡◌, refl, sym, ap, ap₂, ◌∙◌, subst}
use mathlib.Core.Logic.{◌↔◌}
use mathlib.Core.Bool.{Bool, true, false}
use mathlib.Core.List.{List, [], ◌∷◌, append-nil}
use mathlib.Core.Option.{Option, none, some}
use Prim.Native.Nat.{ℕ}
use Rattle.base.proofs.Tests.{zero_one, by_test, not_both}
use Rattle.automaton.specs.declared.Rule.{Rule}
use Rattle.automaton.specs.Automaton.{Automaton, Accepts}
use Rattle.marks.specs.Marks.{text_of}
use Rattle.ruleformat.specs.Refusals.{refusal}
use Rattle.ruleformat.specs.Reader.{rule_of}
use Rattle.live.specs.Continued.{Continued}
use Rattle.follow.specs.Following.{Outcome as Following, follow_number, follow_of}
use Rattle.follow.specs.Claims.{kept_set, handed, FollowedSo}
use Rattle.follow.proofs.Numbers.{follow_is, refused_is}
use Rattle.follow.proofs.Claims as follow
use Rattle.followcalls.specs.Calls.{Call, follows, going, lost_at, refused, followed_by, followed_reply}
use Rattle.followcalls.specs.Histories.{rule_in, chunks_in, after_chunks, followed, right_next, right_reply}
use Rattle.followcalls.specs.Claims.{automaton_for, text_with, Said, Claims}
use Rattle.followcalls.proofs.Last.{last_begun}
use Rattle.followcalls.proofs.Histories.{well, handed_more, right, taken}

-- ---- what a reply says of what following answered: lost at `l`, `e` and `m`
module _ (l : Option ℕ) (e : Bool) (m : ℕ) where
  going_back : (y : Bool) (n : ℕ) → followed_by none l e m ≡ going y n → (l ≡ none) × (e ≡ y) × (m ≡ n)
  going_back y n is = by l refl is
    where
      by : (x : Option ℕ) → l ≡ x → followed_by none x e m ≡ going y n → (l ≡ none) × (e ≡ y) × (m ≡ n)
      by none z i = (z, (cc), (cc))
      by (some b) z i = zero_one cc

  lost_back : (b n : ℕ) → followed_by none l e m ≡ lost_at b n → (l ≡ some b) × (m ≡ n)
  lost_back b n is = by l refl is
    where
      by : (x : Option ℕ) → l ≡ x → followed_by none x e m ≡ lost_at b n → (l ≡ some b) × (m ≡ n)
      by none z i = zero_one cc
      by (some c) z i = ((cc), (cc))

  none_refused : (x : ℕ) → followed_by none l e m ≡ refused x → ⊥
  none_refused x is = by l is
    where
      by : (z : Option ℕ) → followed_by none z e m ≡ refused x → ⊥
      by none i = zero_one cc
      by (some c) i = zero_one cc

as_it_is : (a : Automaton) (w : List ℕ) → Accepts a w → Continued a w
as_it_is a w x = record { rest = []; accepts = subst (Accepts a) (sym (append-nil w)) x }

-- ---- one chunk
module _ (h : List Call) (f w : List ℕ) (last : rule_in h ≡ some f) where
  abbrev r : Rule
  r = rule_of f

  abbrev o : Following
  o = followed r (chunks_in h) w

  reply_is : right_reply h (follows w) ≡ followed_reply o
  unfolding right_reply
  reply_is = ap (λ (x : Option (List ℕ)). right_next x (chunks_in h) w) last

  module _ (ok : follow_number r w ≡ none) where
    so : FollowedSo r (chunks_in h) w
    so = (follow.claims).followed r (chunks_in h) w ok

    accepted_is : right_reply h (follows w) ≡ followed_by none o.lost o.ends o.expected
    accepted_is =
        reply_is
        ∙ ap (λ (x : Option ℕ). followed_by x o.lost o.ends o.expected) (ap (λ (y : Following). y.refusal) (follow_is r w (handed r r.initials (chunks_in h)) ok))

    as_going : (y : Bool) → o.lost ≡ none → o.ends ≡ y → (m : ℕ) × (right_reply h (follows w) ≡ going y m)
    as_going y l e = (o.expected, accepted_is ∙ ap₂ (λ (x : Option ℕ) (z : Bool). followed_by none x z o.expected) l e)

    back_going : (y : Bool) (m : ℕ) → right_reply h (follows w) ≡ going y m → (o.lost ≡ none) × (o.ends ≡ y) × (o.expected ≡ m)
    back_going y m e = going_back o.lost o.ends o.expected y m (sym accepted_is ∙ e)

    back_lost : (b m : ℕ) → right_reply h (follows w) ≡ lost_at b m → (o.lost ≡ some b) × (o.expected ≡ m)
    back_lost b m e = lost_back o.lost o.ends o.expected b m (sym accepted_is ∙ e)

    not_ends : (Accepts (automaton_for h f w) (text_with h f w (text_of w)) → ⊥) → o.ends ≡ false
    not_ends n = by_test o.ends (λ t. absurd (n (so.ends.0 t))) (λ t. t)

    said : Said h f w
    said = record {
      yes_exactly = (
        (λ x. so.ends.0 (back_going true x.0 x.1).1),
        λ a. as_going true (so.not_lost.1 (as_it_is (automaton_for h f w) (text_with h f w (text_of w)) a)) (so.ends.1 a),
      );
      no_exactly = (
        (λ x. let b = back_going false x.0 x.1 in (so.not_lost.0 b.0, λ a. not_both (so.ends.1 a) b.1)),
        λ x. as_going false (so.not_lost.1 x.0) (not_ends x.1),
      );
      lost_exactly = λ b. (
        (λ x. (so.lost b).0 (back_lost b x.0 x.1).0),
        λ x. (o.expected, accepted_is ∙ ap (λ (y : Option ℕ). followed_by none y o.ends o.expected) ((so.lost b).1 x)),
      );
      next = λ e m s z. let b = back_going e m z in rw (sym b.2) (so.expected_next s b.0);
      there = λ b m s z. let l = back_lost b m z in rw (sym l.1) (so.expected_there b s l.0);
    }

  -- ---- refusals
  refused_by_lem : (n : Option ℕ) → follow_number r w ≡ n → (x : ℕ) → right_reply h (follows w) ≡ refused x → n ≡ some x
  refused_by_lem none ok x e = absurd (none_refused o.lost o.ends o.expected x (sym (accepted_is ok) ∙ e))
  refused_by_lem (some y) e x is =
      let z : right_reply h (follows w) ≡ refused y = reply_is ∙ ap followed_reply (refused_is r w (handed r r.initials (chunks_in h)) y e) in cc

  refused_exactly : (x : ℕ) → (right_reply h (follows w) ≡ refused x) ↔ (follow_number r w ≡ some x)
  refused_exactly x =
      ((λ e. refused_by_lem (follow_number r w) refl x e), λ e. reply_is ∙ ap followed_reply (refused_is r w (handed r r.initials (chunks_in h)) x e))

  -- a chunk that is lost is not refused
  lost_taken : (b m : ℕ) → right_reply h (follows w) ≡ lost_at b m → (n : Option ℕ) → follow_number r w ≡ n → follow_number r w ≡ none
  lost_taken b m e none z = z
  lost_taken b m e (some x) z = let y : right_reply h (follows w) ≡ refused x = (refused_exactly x).1 z in zero_one cc

-- ---- lost for good
rule_on : (h : List Call) (ws : List (List ℕ)) → rule_in (after_chunks h ws) ≡ rule_in h
unfolding rule_in
rule_on h [] = refl
rule_on h (w ∷ ws) = rule_on (follows w ∷ h) ws

handed_on : (r : Rule) (m : ℕ) (ws : List (List ℕ)) (h : List Call) → handed r m (chunks_in (after_chunks h ws)) ≡ handed r (handed r m (chunks_in h)) ws
unfolding chunks_in
handed_on r m [] h = refl
handed_on r m (w ∷ ws) h = handed_on r m ws (follows w ∷ h) ∙ ap (λ (n : ℕ). handed r n ws) (handed_more r (chunks_in h) m w)

module _ (h : List Call) (f w : List ℕ) (b m : ℕ) (last : rule_in h ≡ some f) (e : right_reply h (follows w) ≡ lost_at b m)
    (ws : List (List ℕ)) (x : List ℕ) (ok : follow_number (rule_of f) x ≡ none) where
  abbrev started : ℕ
  started = handed (rule_of f) (rule_of f).initials (chunks_in h)

  fine : follow_number (rule_of f) w ≡ none
  fine = lost_taken h f w last b m e (follow_number (rule_of f) w) refl

  for_good : right_reply (after_chunks (follows w ∷ h) ws) (follows x) ≡ lost_at 0 0
  unfolding chunks_in
  for_good =
      let later = after_chunks (follows w ∷ h) ws in
      let there = rule_on (follows w ∷ h) ws ∙ same_rule in
      let set : handed (rule_of f) (rule_of f).initials (chunks_in later) ≡ handed (rule_of f) (follow_of (rule_of f) started w).set ws =
      handed_on (rule_of f) (rule_of f).initials ws (follows w ∷ h)
      ∙ ap (λ (n : ℕ). handed (rule_of f) n ws) (handed_more (rule_of f) (chunks_in h) (rule_of f).initials w ∙ kept) in
      let gone = (follow.claims).for_good (rule_of f) started w b (back_lost h f w last fine b m e).0 ws x ok in
      accepted_is later f x there ok
      ∙ ap (λ (n : ℕ). let z = follow_of (rule_of f) n x in followed_by none z.lost z.ends z.expected) set
      ∙ ap₂ (λ (l : Option ℕ) (n : ℕ). followed_by none l (follow_of (rule_of f) (handed (rule_of f) (follow_of (rule_of f) started w).set ws) x).ends n) gone.0 gone.1
    where
      same_rule : rule_in (follows w ∷ h) ≡ some f
      same_rule = rule_on h (w ∷ []) ∙ last

      kept : kept_set (rule_of f) started w ≡ (follow_of (rule_of f) started w).set
      kept = rw fine

lacking : (h : List Call) (w : List ℕ) → rule_in h ≡ none → right_reply h (follows w) ≡ refused 20
unfolding right_reply
lacking h w e = ap (λ (x : Option (List ℕ)). right_next x (chunks_in h) w) e

pub claims : Claims
claims = record {
  right = right;
  last = last_begun;
  well_formed = λ h f e. well f (taken h f e);
  lacking = lacking;
  refused_exactly = refused_exactly;
  said = said;
  for_good = for_good;
}

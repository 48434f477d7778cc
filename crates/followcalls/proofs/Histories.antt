-- The state is what the calls say. Assumes nothing.
--
--   begun_number       a rule is refused exactly as reading its file is: what was read passes the check
--   handed_more        a chunk more is handed on
--   Agrees o ws s      the state s is that of the rule in the file o after the chunks ws; or no rule
--   right              so every call is answered by what the calls before it say
use mathlib.Core.Path.{◌≡◌, refl, sym, ap, ◌∙◌, subst}
use mathlib.Core.Bool.{Bool, false, cond}
use mathlib.Core.List.{List, [], ◌∷◌, ◌++◌}
use mathlib.Core.Option.{Option, none, some}
use Prim.Native.Nat.{ℕ}
use native.Mathlib.Omega.{arith}
use borrow.Author.Tests.{ne_eqb}
use Rattle.base.proofs.Options.{none-some}
use Rattle.automaton.specs.declared.Rule.{Rule}
use Rattle.automaton.specs.Rules.{WellFormed}
use Rattle.executions.specs.Executions.{state_after}
use Rattle.ruleformat.specs.Refusals.{refusal}
use Rattle.ruleformat.specs.Reader.{rule_of}
use Rattle.ruleformat.proofs.Claims as ruleformat
use Rattle.follow.specs.declared.Follower.{Follower}
use Rattle.follow.specs.Following.{Outcome as Following, follow_number, follow_of, follower_of, prepare_of, follow_by_of}
use Rattle.follow.specs.Claims.{kept_set, handed}
use Rattle.follow.proofs.Ways.{follower_is}
use Rattle.follow.proofs.Numbers.{follow_is, refused_is}
use Rattle.follow.proofs.Claims as follow
use Rattle.followcalls.specs.declared.FollowState.{FollowState}
use Rattle.followcalls.specs.Calls.{Call, forgets, begins, follows, refused, none_yet, follower_by, follower_in, begun_reply, begun_state, followed_reply, followed_state, lacks_rule, reply_of, next_of, follow_machine}
use Rattle.followcalls.specs.Histories.{unless, rule_in, chunks_in, right_next, right_reply}

-- ---- a rule in a file
module _ (f : List ℕ) where
  module _ (e : refusal f ≡ none) where
    pub well : WellFormed (rule_of f)
    well = (ruleformat.claims).well_formed f e

    passes : (prepare_of (rule_of f)).refusal ≡ none
    passes = ((follow.claims).prepared (rule_of f)).accepted.1 well

    same : (m : ℕ) (w : List ℕ) → follow_by_of (follower_of (rule_of f)) m w ≡ follow_of (rule_of f) m w
    same m w =
        ap (λ (p : Follower). follow_by_of p m w) (sym (follower_is (rule_of f) passes))
        ∙ ((follow.claims).prepared (rule_of f)).same passes m w

  number_by : (o : Option ℕ) → refusal f ≡ o → (follower_by o f).refusal ≡ o
  number_by none e = passes e
  number_by (some x) e = refl

  pub begun_number : (follower_in f).refusal ≡ refusal f
  begun_number = number_by (refusal f) refl

-- ---- from chunk to chunk
module _ (r : Rule) where
  pub handed_more : (ws : List (List ℕ)) (m : ℕ) (w : List ℕ) → handed r m (ws ++ (w ∷ [])) ≡ kept_set r (handed r m ws) w
  handed_more [] m w = refl
  handed_more (v ∷ ws) m w = handed_more ws (kept_set r m v) w

  module _ (s : FollowState) (m : ℕ) (w : List ℕ) where
    moved : (o : Option ℕ) → follow_number r w ≡ o
        → followed_state (follow_of r m w).refusal (follow_of r m w).set (record { follower = s.follower; set = m })
        ≡ record { follower = s.follower; set = kept_set r m w }
    moved none e =
        rw e
        (ap (λ (x : Following). followed_state x.refusal (follow_of r m w).set (record { follower = s.follower; set = m })) (follow_is r w m e))
    moved (some x) e =
        rw e
        (ap (λ (y : Following). followed_state y.refusal (follow_of r m w).set (record { follower = s.follower; set = m })) (refused_is r w m x e))

-- ---- the state
abbrev state_by : List ℕ → ℕ → FollowState
state_by f m = record { follower = follower_of (rule_of f); set = m }

pub data Agrees : Option (List ℕ) → List (List ℕ) → FollowState → Type 0 where
  nothing : {ws : List (List ℕ)} → Agrees none ws none_yet
  traced : {f : List ℕ} {ws : List (List ℕ)} → refusal f ≡ none → Agrees (some f) ws (state_by f (handed (rule_of f) (rule_of f).initials ws))

begun_by_lem : (f : List ℕ) {former : Option (List ℕ)} {ws : List (List ℕ)} (s : FollowState) → Agrees former ws s → (o : Option ℕ) → refusal f ≡ o
    → Agrees (unless o (some f) former) (unless o [] ws) (begun_state o (follower_by o f) s)
begun_by_lem f s so none e =
    subst (λ (p : Follower). Agrees (some f) [] (record { follower = p; set = p.rule.initials })) (sym (follower_is (rule_of f) (passes f e))) (traced e)
begun_by_lem f s so (some x) e = so

begun_agrees : (f : List ℕ) {former : Option (List ℕ)} {ws : List (List ℕ)} (s : FollowState) → Agrees former ws s
    → Agrees (unless (refusal f) (some f) former) (unless (refusal f) [] ws) (begun_state (follower_in f).refusal (follower_in f) s)
begun_agrees f {former} {ws} s so =
    subst (λ (o : Option ℕ). Agrees (unless (refusal f) (some f) former) (unless (refusal f) [] ws) (begun_state o (follower_in f) s)) (sym (begun_number f))
    (begun_by_lem f s so (refusal f) refl)

there : (f : List ℕ) → refusal f ≡ none → (m : ℕ) → lacks_rule (state_by f m) ≡ false
there f e m = ne_eqb (rule_of f).n 0 (λ z. omega (arith, (well f e).states.0))

next_agrees : {o : Option (List ℕ)} {ws : List (List ℕ)} {s : FollowState} → Agrees o ws s → (w : List ℕ) → Agrees o (ws ++ (w ∷ [])) (next_of s (follows w))
unfolding next_of
next_agrees nothing w = nothing
next_agrees (traced {f} {ws} e) w =
    let r = rule_of f in
    let m = handed r r.initials ws in
    let left : next_of (state_by f m) (follows w) ≡ state_by f (handed r r.initials (ws ++ (w ∷ []))) =
    ap (λ (b : Bool). cond b (state_by f m) (followed_state (follow_by_of (follower_of r) m w).refusal (follow_by_of (follower_of r) m w).set (state_by f m))) (there f e m)
    ∙ ap (λ (x : Following). followed_state x.refusal x.set (state_by f m)) (same f e m w)
    ∙ moved r (state_by f m) m w (follow_number r w) refl
    ∙ ap (state_by f) (sym (handed_more r ws r.initials w)) in
    subst (Agrees (some f) (ws ++ (w ∷ []))) (sym left) (traced e)

pub agrees : (h : List Call) → Agrees (rule_in h) (chunks_in h) (state_after follow_machine h)
unfolding state_after rule_in chunks_in next_of
agrees [] = nothing
agrees (forgets ∷ h) = nothing
agrees (begins f ∷ h) = begun_agrees f (state_after follow_machine h) (agrees h)
agrees (follows w ∷ h) = next_agrees (agrees h) w

-- ---- so each call is answered by what the calls say
next_right : {o : Option (List ℕ)} {ws : List (List ℕ)} {s : FollowState} → Agrees o ws s → (w : List ℕ) → reply_of s (follows w) ≡ right_next o ws w
unfolding reply_of
next_right nothing w = refl
next_right (traced {f} {ws} e) w =
    let r = rule_of f in
    let m = handed r r.initials ws in
    ap (λ (b : Bool). cond b (refused 20) (followed_reply (follow_by_of (follower_of r) m w))) (there f e m) ∙ ap followed_reply (same f e m w)

pub right : (h : List Call) (c : Call) → reply_of (state_after follow_machine h) c ≡ right_reply h c
unfolding reply_of right_reply
right h forgets = refl
right h (begins f) = ap begun_reply (begun_number f)
right h (follows w) = next_right (agrees h) w

rule_read_lem : {o : Option (List ℕ)} {ws : List (List ℕ)} {s : FollowState} → Agrees o ws s → (f : List ℕ) → o ≡ some f → refusal f ≡ none
rule_read_lem nothing f e = none-some refl e
rule_read_lem (traced {f = g} a) f e = let z : g ≡ f = cc in subst (λ (x : List ℕ). refusal x ≡ none) z a

pub taken : (h : List Call) (f : List ℕ) → rule_in h ≡ some f → refusal f ≡ none
taken h f e = rule_read_lem (agrees h) f e

-- From chunk to chunk: the set that is handed on is the set after the text of the chunks that were
-- not refused; what is lost stays lost; bits at n and above mean nothing. Assumes nothing.
use Rattle.std.proofs.Common.{◌≡◌, ℕ, zero, suc, ◌+◌, ◌-◌, ◌<◌, Bool, true, false, not, ◌↔◌, List, [], ◌∷◌, ◌++◌, map, length, get_or, take, drop, sym, refl, ap, ◌∙◌, subst, append_assoc, append-nil, add-one, arith}
use mathlib.Core.List.{flatten}
use mathlib.Core.Option.{Option, none, some}
use lib.Seq.{take-length}
use Rattle.base.proofs.Options.{none-some}
use Rattle.base.proofs.Tests.{by_test, not_both, same_truth}
use Rattle.masks.specs.Masks.{◌∈◌, shares}
use Rattle.masks.proofs.Laws.{ext, empty_mask, no_member}
use Rattle.marks.specs.Marks.{text_of}
use Rattle.marks.proofs.Laws.{skipped, kept}
use Rattle.automaton.specs.declared.Rule.{Rule}
use Rattle.automaton.specs.Automaton.{Accepts}
use Rattle.automaton.specs.Rules.{automaton_of, WellFormed}
use Rattle.automaton.specs.Successor.{successor, after, Reached}
use Rattle.automaton.proofs.Laws.{successor_law, after-append, after_law, accepts_law}
use Rattle.live.specs.Live.{live_of}
use Rattle.live.specs.Continued.{Continued, AcceptsIn, CanEnd}
use Rattle.live.proofs.Rounds.{run_state}
use Rattle.live.proofs.Hope.{ends_law, hope, no_hope, shorter, moved, dead_on, continued_before}
use Rattle.follow.specs.Following.{set_after, least_below, lost_by, place_of, next_by, follow_number, walk_of, follow_of}
use Rattle.follow.specs.Claims.{LostAt, One, kept_set, handed, kept_text, taken_text, FollowedSo}
use Rattle.follow.proofs.Steps.{after-rest}
use Rattle.follow.proofs.Losing.{lost_law, kept_law, next_law}
use Rattle.follow.proofs.Numbers.{checked_rule, follow_is, refused_is}

-- ---- one call
-- what can be continued, and by no symbol, is accepted
ended_by : (r : Rule) (m : ℕ) (v rest : List ℕ) → ((s : ℕ) → CanEnd r m (v ++ (s ∷ [])) → ⊥) → AcceptsIn r m (v ++ rest) → AcceptsIn r m v
ended_by r m v [] n a = subst (AcceptsIn r m) (append-nil v) a
ended_by r m v (s ∷ u) n a = absurd (n s (record { rest = u; accepts = subst (AcceptsIn r m) (sym (append_assoc v (s ∷ []) u)) a }))

module _ (r : Rule) (m : ℕ) (w : List ℕ) (ok : follow_number r w ≡ none) where
  good : WellFormed r
  good = checked_rule r w ok

  is : follow_of r m w ≡ walk_of r m w
  is = follow_is r w m ok

  ended : (v : List ℕ) → ((s : ℕ) → CanEnd r m (v ++ (s ∷ [])) → ⊥) → CanEnd r m v → AcceptsIn r m v
  ended v n c = ended_by r m v c.rest n c.accepts

  lost_is : (follow_of r m w).lost ≡ lost_by r.targets (live_of r) m w
  lost_is = ap (λ o. o.lost) is

  expected_is : (o : Option ℕ) → (follow_of r m w).lost ≡ o
      → (follow_of r m w).expected ≡ next_by r.targets (live_of r) r.k (set_after r.targets m (take (place_of o w) w))
  expected_is o e =
      ap (λ x. x.expected) is
      ∙ ap (λ (x : Option ℕ). next_by r.targets (live_of r) r.k (set_after r.targets m (take (place_of x w) w))) (sym lost_is ∙ e)

  expected_at : (v : List ℕ) (s : ℕ) → (follow_of r m w).expected ≡ next_by r.targets (live_of r) r.k (after r.targets m v)
      → s ∈ (follow_of r m w).expected ↔ CanEnd r m (v ++ (s ∷ []))
  expected_at v s e =
      let law = next_law r good (after r.targets m v) s in
      let to = moved r good m v (s ∷ []) in (
        (λ x. to.0 (law.0 (subst (λ (y : ℕ). s ∈ y) e x))),
        λ x. subst (λ (y : ℕ). s ∈ y) (sym e) (law.1 (to.1 x)),
      )

  -- the byte at which it is lost
  module _ (b : ℕ) (e : (follow_of r m w).lost ≡ some (suc b)) where
    at : LostAt r m w (suc b)
    at = (lost_law r good m w (suc b)).0 (sym lost_is ∙ e)

    inside : b < length w
    inside = omega (arith, at.within)

    more : (x : List ℕ) → x ≡ text_of (take (b + 1) w) → CanEnd r m x → ⊥
    more x is c =
        let z : b + 1 ≡ suc b = add-one b in
        at.lost (subst (CanEnd r m) (is ∙ ap (λ (i : ℕ). text_of (take i w)) z) c)

    there : (s : ℕ) → s ∈ (follow_of r m w).expected ↔ CanEnd r m (text_of (take b w) ++ (s ∷ []))
    there s =
        let z : suc b - 1 ≡ b = omega arith in
        subst (λ (i : ℕ). s ∈ (follow_of r m w).expected ↔ CanEnd r m (text_of (take i w) ++ (s ∷ []))) z
        (expected_at (text_of (take (suc b - 1) w)) s (expected_is (some (suc b)) e))

    not_idle : get_or w b 0 ≡ 255 → ⊥
    not_idle i = more (text_of (take b w)) (skipped w b inside i) (at.before b (omega arith))

    culprit : (b < length w) × (get_or w b 0 ≡ 255 → ⊥) × (get_or w b 0 ∈ (follow_of r m w).expected → ⊥)
    culprit = (inside, not_idle, λ i. more (text_of (take b w) ++ (get_or w b 0 ∷ [])) (kept w b inside not_idle) ((there (get_or w b 0)).0 i))

    only_end : (follow_of r m w).expected ≡ 0 → AcceptsIn r m (text_of (take b w))
    only_end z =
        ended (text_of (take b w)) (λ s c. no_member s (subst (λ (y : ℕ). s ∈ y) z ((there s).1 c))) (at.before b (omega arith))

  -- the set before the byte at which it is lost
  complete_is : (o : Option ℕ) → (follow_of r m w).lost ≡ o → (follow_of r m w).complete ≡ shares (set_after r.targets m (take (place_of o w) w)) r.finals
  complete_is o e =
      ap (λ x. x.complete) is
      ∙ ap (λ (x : Option ℕ). shares (set_after r.targets m (take (place_of x w) w)) r.finals) (sym lost_is ∙ e)

  complete_there : (b : ℕ) → (follow_of r m w).lost ≡ some (suc b) → ((follow_of r m w).complete ≡ true) ↔ AcceptsIn r m (text_of (take b w))
  complete_there b e =
      let z : suc b - 1 ≡ b = omega arith in
      rw (complete_is (some (suc b)) e, z) (ends_law r good m (text_of (take b w)))

  complete_here : (follow_of r m w).lost ≡ none → (follow_of r m w).complete ≡ (follow_of r m w).ends
  complete_here e =
      complete_is none e
      ∙ ap (λ (x : List ℕ). shares (set_after r.targets m x) r.finals) (take-length w)
      ∙ sym (ap (λ o. o.ends) is)

  -- what is accepted can be continued, by nothing
  as_it_is : (v : List ℕ) → AcceptsIn r m v → CanEnd r m v
  as_it_is v a = record { rest = []; accepts = subst (AcceptsIn r m) (sym (append-nil v)) a }

  complete_never : (follow_of r m w).lost ≡ some 0 → (follow_of r m w).complete ≡ false
  complete_never e =
      let at = (lost_law r good m w 0).0 (sym lost_is ∙ e) in
      complete_is (some 0) e
      ∙ by_test (shares (set_after r.targets m (take 0 w)) r.finals)
      (λ t. absurd (at.lost (as_it_is (text_of (take 0 w)) ((ends_law r good m (text_of (take 0 w))).0 t))))
      (λ f. f)

  only_end_next : (follow_of r m w).lost ≡ none → (follow_of r m w).expected ≡ 0 → (follow_of r m w).ends ≡ true
  only_end_next e z =
      let is-next : (follow_of r m w).expected ≡ next_by r.targets (live_of r) r.k (after r.targets m (text_of w)) =
      expected_is none e ∙ ap (λ (x : List ℕ). next_by r.targets (live_of r) r.k (set_after r.targets m x)) (take-length w) in
      let a = ended (text_of w)
      (λ s c. no_member s (subst (λ (y : ℕ). s ∈ y) z ((expected_at (text_of w) s is-next).1 c)))
      ((kept_law r good m w).0 (sym lost_is ∙ e)) in
      ap (λ o. o.ends) is ∙ (ends_law r good m (text_of w)).1 a

  pub one : One r m w
  one = record {
    culprit = culprit;
    complete_there = complete_there;
    complete_here = complete_here;
    complete_never = complete_never;
    only_end = only_end;
    only_end_next = only_end_next;
    set = λ h p. rw is (after_law r good m p (text_of w) h);
    ends = rw is (ends_law r good m (text_of w));
    lost = λ b. rw is (lost_law r good m w b);
    not_lost = rw is (kept_law r good m w);
    expected_there = λ b s e. expected_at (text_of (take (b - 1) w)) s (expected_is (some b) e);
    expected_next = λ s e.
        expected_at (text_of w) s
        (expected_is none e ∙ ap (λ (x : List ℕ). next_by r.targets (live_of r) r.k (set_after r.targets m x)) (take-length w));
  }

-- ---- from chunk to chunk
module _ (r : Rule) where
  kept-is : (m : ℕ) (w : List ℕ) (o : Option ℕ) → follow_number r w ≡ o → kept_set r m w ≡ after r.targets m (kept_text r w)
  kept-is m w none e = rw e (ap (λ x. x.set) (follow_is r w m e))
  kept-is m w (some x) e = rw e

  pub handed_is : (ws : List (List ℕ)) (m : ℕ) → handed r m ws ≡ after r.targets m (taken_text r ws)
  unfolding flatten
  handed_is [] m = refl
  handed_is (w ∷ ws) m =
      ap (λ (x : ℕ). handed r x ws) (kept-is m w (follow_number r w) refl)
      ∙ handed_is ws (after r.targets m (kept_text r w))
      ∙ sym (after-append r.targets m (kept_text r w) (taken_text r ws))

  pub all_taken : (ws : List (List ℕ)) → ((i : ℕ) → i < length ws → follow_number r (get_or ws i []) ≡ none) → taken_text r ws ≡ flatten (map text_of ws)
  unfolding flatten
  all_taken [] h = refl
  all_taken (w ∷ ws) h =
      let e : follow_number r w ≡ none = h 0 (omega arith) in
      rw e (ap (λ (x : List ℕ). text_of w ++ x) (all_taken ws (λ i l. h (suc i) (omega arith))))

  module _ (ws : List (List ℕ)) (w : List ℕ) (ok : follow_number r w ≡ none) where
    fine : WellFormed r
    fine = checked_rule r w ok

    begun_is : handed r r.initials ws ≡ after r.targets r.initials (taken_text r ws)
    begun_is = handed_is ws r.initials

    -- over the joined text
    accepts_too : (v : List ℕ) → AcceptsIn r (handed r r.initials ws) v ↔ Accepts (automaton_of r) (taken_text r ws ++ v)
    accepts_too v =
        let e : shares (after r.targets r.initials (taken_text r ws ++ v)) r.finals ≡ shares (after r.targets (handed r r.initials ws) v) r.finals =
        ap (λ (x : ℕ). shares x r.finals)
        (after-append r.targets r.initials (taken_text r ws) v ∙ ap (λ (x : ℕ). after r.targets x v) (sym begun_is)) in
        let here = ends_law r fine (handed r r.initials ws) v in
        let there = accepts_law r fine (taken_text r ws ++ v) in (
          (λ x. there.1 (e ∙ here.1 x)),
          λ x. here.0 (sym e ∙ there.0 x),
        )

    continues_too : (v : List ℕ) → CanEnd r (handed r r.initials ws) v ↔ Continued (automaton_of r) (taken_text r ws ++ v)
    continues_too v = (
      (λ c. record {
        rest = c.rest;
        accepts = subst (Accepts (automaton_of r)) (sym (append_assoc (taken_text r ws) v c.rest)) ((accepts_too (v ++ c.rest)).0 c.accepts);
      }),
      λ c. record {
        rest = c.rest;
        accepts = (accepts_too (v ++ c.rest)).1 (subst (Accepts (automaton_of r)) (append_assoc (taken_text r ws) v c.rest) c.accepts);
      },
    )

    set_too : (p : ℕ) → p ∈ (follow_of r (handed r r.initials ws) w).set ↔ Reached (automaton_of r) r.initials (taken_text r ws ++ text_of w) p
    set_too p =
        let e : (follow_of r (handed r r.initials ws) w).set ≡ after r.targets r.initials (taken_text r ws ++ text_of w) =
        ap (λ x. x.set) (follow_is r w (handed r r.initials ws) ok)
        ∙ ap (λ (x : ℕ). after r.targets x (text_of w)) begun_is
        ∙ sym (after-append r.targets r.initials (taken_text r ws) (text_of w)) in
        let law = after_law r fine r.initials p (taken_text r ws ++ text_of w) fine.initials_below in (
          (λ x. law.0 (subst (λ (y : ℕ). p ∈ y) e x)),
          λ x. subst (λ (y : ℕ). p ∈ y) (sym e) (law.1 x),
        )

    pub followed : FollowedSo r ws w
    followed =
        let call = one r (handed r r.initials ws) w ok in
        record {
          set = set_too;
          ends = ((λ e. (accepts_too (text_of w)).0 (call.ends.0 e)), λ a. call.ends.1 ((accepts_too (text_of w)).1 a));
          lost = λ b. (
            (λ e.
                let x = (call.lost b).0 e in (
                  x.within,
                  (λ c. x.lost ((continues_too (text_of (take b w))).1 c)),
                  λ i l. (continues_too (text_of (take i w))).0 (x.before i l),
                )),
            λ x. (call.lost b).1 (record {
              within = x.0;
              lost = λ c. x.1 ((continues_too (text_of (take b w))).0 c);
              before = λ i l. (continues_too (text_of (take i w))).1 (x.2 i l);
            }),
          );
          not_lost = ((λ e. (continues_too (text_of w)).0 (call.not_lost.0 e)), λ c. call.not_lost.1 ((continues_too (text_of w)).1 c));
          every_shorter = λ b e v u is.
              let c = (continues_too (text_of (take b w))).0 (((call.lost (suc b)).0 e).before b (omega arith)) in
              continued_before (automaton_of r) v u (subst (Continued (automaton_of r)) is c);
          expected_there = λ b s e.
              let x = call.expected_there b s e in
              let y = continues_too (text_of (take (b - 1) w) ++ (s ∷ [])) in
              ((λ i. y.0 (x.0 i)), λ c. x.1 (y.1 c));
          expected_next = λ s e.
              let x = call.expected_next s e in
              let y = continues_too (text_of w ++ (s ∷ [])) in
              ((λ i. y.0 (x.0 i)), λ c. x.1 (y.1 c));
          complete_there = λ b e.
              let x = call.complete_there b e in
              let y = accepts_too (text_of (take b w)) in
              ((λ t. y.0 (x.0 t)), λ a. x.1 (y.1 a));
          complete_here = λ e.
              let x = call.complete_here e in
              let y = accepts_too (text_of w) in
              ((λ t. y.0 (call.ends.0 (sym x ∙ t))), λ a. x ∙ call.ends.1 (y.1 a));
        }

-- ---- lost for good
-- a chunk that is lost was followed
lost_followed : (r : Rule) (m : ℕ) (w : List ℕ) (b : ℕ) (o : Option ℕ) → follow_number r w ≡ o → (follow_of r m w).lost ≡ some b → o ≡ none
lost_followed r m w b none e l = refl
lost_followed r m w b (some x) e l = none-some (ap (λ y. y.lost) (refused_is r w m x e)) l

module _ (r : Rule) (good : WellFormed r) (m : ℕ) (dead : shares m (live_of r) ≡ false) (x : List ℕ) (ok : follow_number r x ≡ none) where
  nothing_in : (v : List ℕ) → CanEnd r m v → ⊥
  nothing_in v c = not_both ((hope r good m []).1 (shorter r good m [] v c)) dead

  dead_lost : (follow_of r m x).lost ≡ some 0
  dead_lost =
      ((one r m x ok).lost 0).1
      (record { within = omega arith; lost = nothing_in (text_of (take 0 x)); before = λ i l. absurd (omega arith) })

  dead_expected : (follow_of r m x).expected ≡ 0
  dead_expected =
      empty_mask (follow_of r m x).expected
      (λ s e. nothing_in (text_of (take (0 - 1) x) ++ (s ∷ [])) (((one r m x ok).expected_there 0 s dead_lost).0 e))

  dead_ends : (follow_of r m x).ends ≡ false
  dead_ends =
      by_test (follow_of r m x).ends
      (λ t. let a = (one r m x ok).ends.0 t in
      absurd (nothing_in (text_of x) (record { rest = []; accepts = subst (AcceptsIn r m) (sym (append-nil (text_of x))) a })))
      (λ f. f)

  pub dead_call : ((follow_of r m x).lost ≡ some 0) × ((follow_of r m x).expected ≡ 0) × ((follow_of r m x).ends ≡ false) × ((follow_of r m x).complete ≡ false)
  dead_call = (dead_lost, dead_expected, dead_ends, (one r m x ok).complete_never dead_lost)

pub for_good : (r : Rule) (m : ℕ) (w : List ℕ) (b : ℕ) → (follow_of r m w).lost ≡ some b → (ws : List (List ℕ)) (x : List ℕ) → follow_number r x ≡ none
    → ((follow_of r (handed r (follow_of r m w).set ws) x).lost ≡ some 0)
    × ((follow_of r (handed r (follow_of r m w).set ws) x).expected ≡ 0)
    × ((follow_of r (handed r (follow_of r m w).set ws) x).ends ≡ false)
    × ((follow_of r (handed r (follow_of r m w).set ws) x).complete ≡ false)
for_good r m w b e ws x ok =
    let fine = checked_rule r x ok in
    let taken : follow_number r w ≡ none = lost_followed r m w b (follow_number r w) refl e in
    let at = ((one r m w taken).lost b).0 e in
    let first = no_hope r fine m (text_of (take b w)) at.lost in
    let whole : shares (set_after r.targets m w) (live_of r) ≡ false =
    ap (λ (y : ℕ). shares y (live_of r)) (sym (after-rest r.targets m w b)) ∙ dead_on r fine (set_after r.targets m (take b w)) (text_of (drop b w)) first in
    let set_is : (follow_of r m w).set ≡ set_after r.targets m w = ap (λ y. y.set) (follow_is r w m taken) in
    let later : shares (handed r (follow_of r m w).set ws) (live_of r) ≡ false =
    ap (λ (y : ℕ). shares y (live_of r)) (handed_is r ws (follow_of r m w).set ∙ ap (λ (y : ℕ). after r.targets y (taken_text r ws)) set_is)
    ∙ dead_on r fine (set_after r.targets m w) (taken_text r ws) whole in
    dead_call r fine (handed r (follow_of r m w).set ws) later x ok

-- ---- bits at n and above
least_same : (t u : ℕ → Bool) (n : ℕ) → ((i : ℕ) → t i ≡ u i) → least_below t n ≡ least_below u n
unfolding least_below
least_same t u zero h = refl
least_same t u (suc n) h = rw (least_same t u n h, h n)

module _ (r : Rule) (l m : ℕ) (same : (q : ℕ) → q < r.n → (q ∈ l) ↔ (q ∈ m)) where
  module _ (good : WellFormed r) where
    go_in : (v : List ℕ) → AcceptsIn r l v ↔ AcceptsIn r m v
    go_in v = (
      (λ x. record { from = x.from; member = (same x.from (run_state r good x.accepts.run)).0 x.member; accepts = x.accepts }),
      λ x. record { from = x.from; member = (same x.from (run_state r good x.accepts.run)).1 x.member; accepts = x.accepts },
    )

    go_end : (v : List ℕ) → CanEnd r l v ↔ CanEnd r m v
    go_end v = (
      (λ c. record { rest = c.rest; accepts = (go_in (v ++ c.rest)).0 c.accepts }),
      λ c. record { rest = c.rest; accepts = (go_in (v ++ c.rest)).1 c.accepts },
    )

    same_end : (v : List ℕ) → shares (after r.targets l v) r.finals ≡ shares (after r.targets m v) r.finals
    same_end v =
        same_truth (shares (after r.targets l v) r.finals) (shares (after r.targets m v) r.finals)
        ((λ e. (ends_law r good m v).1 ((go_in v).0 ((ends_law r good l v).0 e))), λ e. (ends_law r good l v).1 ((go_in v).1 ((ends_law r good m v).0 e)))

    same_hope : (v : List ℕ) → shares (after r.targets l v) (live_of r) ≡ shares (after r.targets m v) (live_of r)
    same_hope v =
        same_truth (shares (after r.targets l v) (live_of r)) (shares (after r.targets m v) (live_of r))
        ((λ e. (hope r good m v).1 ((go_end v).0 ((hope r good l v).0 e))), λ e. (hope r good l v).1 ((go_end v).1 ((hope r good m v).0 e)))

    same_lost : (w : List ℕ) → lost_by r.targets (live_of r) l w ≡ lost_by r.targets (live_of r) m w
    same_lost w =
        least_same (λ i. not (shares (set_after r.targets l (take i w)) (live_of r))) (λ i. not (shares (set_after r.targets m (take i w)) (live_of r))) (suc (length w))
        (λ i. ap not (same_hope (text_of (take i w))))

    same_next : (v : List ℕ) → next_by r.targets (live_of r) r.k (after r.targets l v) ≡ next_by r.targets (live_of r) r.k (after r.targets m v)
    same_next v = ext _ _ λ s.
        let a = next_law r good (after r.targets l v) s in
        let b = next_law r good (after r.targets m v) s in
        let c = moved r good l v (s ∷ []) in
        let d = moved r good m v (s ∷ []) in
        let e = go_end (v ++ (s ∷ [])) in
        ((λ x. b.1 (d.1 (e.0 (c.0 (a.0 x))))), λ x. a.1 (c.1 (e.1 (d.0 (b.0 x)))))

    same_set : (v : List ℕ) (q : ℕ) → q < r.n → (q ∈ after r.targets l v) ↔ (q ∈ after r.targets m v)
    same_set [] q h = same q h
    same_set (s ∷ v) q h =
        let e : successor r.targets l s ≡ successor r.targets m s =
        ext _ _ λ p. (
          (λ x. let y = (successor_law r good l s p).0 x in (successor_law r good m s p).1 (y.0, (same y.0 y.2.source).0 y.1, y.2)),
          λ x. let y = (successor_law r good m s p).0 x in (successor_law r good l s p).1 (y.0, (same y.0 y.2.source).1 y.1, y.2),
        ) in
        rw e (λ x. x, λ x. x)

  abbrev Alike : List ℕ → Type 0
  Alike w =
      ((follow_of r l w).ends ≡ (follow_of r m w).ends) × ((follow_of r l w).lost ≡ (follow_of r m w).lost)
      × ((follow_of r l w).expected ≡ (follow_of r m w).expected) × ((follow_of r l w).complete ≡ (follow_of r m w).complete)
      × ((q : ℕ) → q < r.n → (q ∈ (follow_of r l w).set) ↔ (q ∈ (follow_of r m w).set))

  alike : (w : List ℕ) (o : Option ℕ) → follow_number r w ≡ o → Alike w
  alike w none e =
      let fine = checked_rule r w e in
      rw (follow_is r w l e, follow_is r w m e) (
        same_end fine (text_of w),
        same_lost fine w,
        ap (λ (o : Option ℕ). next_by r.targets (live_of r) r.k (set_after r.targets l (take (place_of o w) w))) (same_lost fine w)
            ∙ same_next fine (text_of (take (place_of (lost_by r.targets (live_of r) m w) w) w)),
        ap (λ (o : Option ℕ). shares (set_after r.targets l (take (place_of o w) w)) r.finals) (same_lost fine w)
            ∙ same_end fine (text_of (take (place_of (lost_by r.targets (live_of r) m w) w) w)),
        same_set fine (text_of w),
      )
  alike w (some x) e = rw (refused_is r w l x e, refused_is r w m x e) (refl, refl, refl, refl, λ q h. (λ y. y, λ y. y))

  pub means_nothing : (w : List ℕ) → Alike w
  means_nothing w = alike w (follow_number r w) refl

-- Live states, and runs over the pruned table: such a run dies where nothing can follow. Assumes a
-- well-formed rule with at most 512 sets.
--
-- The route: a set has a live state exactly where it accepts some text (`alive_text`, `alive_by`), so
-- a set that has none never gets one again (`dead_on`). So a walk over the pruned table is at 512
-- exactly where the set after the text has no live state (`Ends`), and the bytes for which the runs
-- look a successor up are the least after which no run is left.
use mathlib.Core.Path.{◌≡◌, refl, sym, ap, ◌∙◌, subst}
use mathlib.Core.Logic.{◌↔◌}
use mathlib.Core.Bool.{Bool, true, false, cond}
use mathlib.Core.List.{List, [], ◌∷◌, ◌++◌}
use mathlib.Core.Option.{Option, none, some}
use Prim.Native.Nat.{ℕ, zero, suc, ◌%◌, ◌^◌, ◌≤◌, ◌<◌}
use native.Mathlib.Omega.{arith}
use lib.Dec.{eqb, ltb}
use lib.ListN.{length, get_or, take}
use lib.Pow.{pow-lt}
use borrow.Author.Tests.{lt-ltb, ltb-true, ltb-false, eqb-true, eqb-false}
use Rattle.base.proofs.Conditions.{any_found, none_at}
use Rattle.base.proofs.Lists.{cell_of_lem}
use Rattle.base.proofs.Tests.{by_test, not_both}
use Rattle.base.proofs.Totals.{greatest_most, term_greatest}
use Rattle.masks.specs.Masks.{◌∈◌, has, single, shares}
use Rattle.masks.proofs.Laws.{no_member, has_member, member_of, members_below, shares_law}
use Rattle.automaton.specs.declared.Rule.{Rule}
use Rattle.automaton.specs.Automaton.{Text}
use Rattle.automaton.specs.Rules.{automaton_of, WellFormed}
use Rattle.automaton.specs.Successor.{successor, after}
use Rattle.automaton.proofs.Laws.{after-append, after_below, successor_below}
use Rattle.subsets.specs.Sets.{too_many, set_cells, next_cells}
use Rattle.subsets.specs.Claims.{sets, fits}
use Rattle.subsets.proofs.Claims as subsets
use Rattle.delegates.specs.Alike.{Live, Delegate, delegate_in}
use Rattle.delegates.specs.Claims.{starts_in}
use Rattle.delegates.specs.mirror.Classes.{follow}
use Rattle.delegates.proofs.Acceptance.{mask_at, follow_law}
use Rattle.delegates.proofs.Alike.{said_some, some_said, run_text, merged_some, delegates_in_lem}
use Rattle.delegates.proofs.Classes.{follow_empty, follow_within}
use Rattle.build.specs.mirror.Building.{built_of}
use Rattle.build.proofs.Claims as build
use Rattle.walks.specs.mirror.Steps.{end_by}
use Rattle.walks.proofs.Steps as walks
use Rattle.chunks.specs.mirror.Walks.{step_of, walk_end, walk_looked, mask_of, runs_of}
use Rattle.chunks.proofs.Walks.{end_empty}
use Rattle.joins.proofs.Acceptance.{Accepting, accepting_law, accepting_single}
use Rattle.locating.specs.mirror.Pruning.{live_set, pruned}
use Rattle.locating.specs.Locating.{some_left}
use Rattle.locating.proofs.Pruning.{live_law, pruned_step}
use Rattle.histories.proofs.Running.{merged}

pub take-take : (n b : ℕ) (t : List ℕ) → n ≤ b → take n (take b t) ≡ take n t
take-take zero b t l = refl
take-take (suc n) zero t l = absurd (omega arith)
take-take (suc n) (suc b) [] l = refl
take-take (suc n) (suc b) (c ∷ t) l = ap (λ (u : List ℕ). c ∷ u) (take-take n b t (omega arith))

pub text-take : (k : ℕ) (t : List ℕ) (i : ℕ) → Text k t → Text k (take i t)
text-take k t zero x = tt
text-take k [] (suc i) x = tt
text-take k (s ∷ t) (suc i) x = (x.0, text-take k t i x.1)

module _ (r : Rule) (good : WellFormed r) (fit : fits r) where
  abbrev delegates : List ℕ
  delegates = (starts_in r).delegates

  -- ---- live states
  pub has_delegate : (q : ℕ) → q < r.n → Live (automaton_of r) q → (x : ℕ) × (delegate_in delegates q ≡ some x)
  has_delegate q l live = told (delegate_in delegates q) refl (delegates_in_lem (automaton_of r) good.states.1 delegates (starts_in r).startcount (merged r good fit) q l)
    where
      told : (o : Option ℕ) → delegate_in delegates q ≡ o → Delegate (automaton_of r) q o → (x : ℕ) × (delegate_in delegates q ≡ some x)
      told none z f = absurd (f live)
      told (some x) z f = (x, z)

  abbrev pub lives : ℕ
  lives = live_set delegates r.n

  pub lives_law : (q : ℕ) → q ∈ lives ↔ (q < r.n) × Live (automaton_of r) q
  lives_law q = (
    (λ i.
        let l = (live_law delegates r.n q).0 i in
        (l.0, (merged_some (automaton_of r) delegates (starts_in r).startcount (merged r good fit) q (get_or delegates q 0) l.0 (said_some delegates q l.1)).0)),
    λ l.
        let d = has_delegate q l.0 l.1 in
        let s = some_said delegates q d.0 d.1 in
        (live_law delegates r.n q).1 (l.0, omega (arith, s.0, s.1)),
  )

  -- ---- a set has one exactly where it accepts some text
  pub alive_text : (m : ℕ) → m < 2 ^ r.n → shares m lives ≡ true → (v : List ℕ) × Text r.k v × Accepting r m v
  alive_text m below e =
      let u = (shares_law m lives).0 e in
      let l = ((lives_law u.0).0 u.2).1 in
      (l.text, run_text (automaton_of r) l.accepts.run, (accepting_law r good m l.text below).1 (u.0, u.1, l.accepts))

  pub alive_by : (m : ℕ) → m < 2 ^ r.n → (v : List ℕ) → Accepting r m v → shares m lives ≡ true
  alive_by m below v a =
      let u = (accepting_law r good m v below).0 a in
      (shares_law m lives).1 (u.0, u.1, (lives_law u.0).1 (members_below r.n m u.0 below u.1, record { text = v; accepts = u.2 }))

  -- over two parts of a text
  pub accepting_on : (m : ℕ) (u v : List ℕ) → Accepting r (after r.targets m u) v → Accepting r m (u ++ v)
  accepting_on m u v a = subst (λ (s : ℕ). shares s r.finals ≡ true) (sym (after-append r.targets m u v)) a

  pub accepting_back : (m : ℕ) (u v : List ℕ) → Accepting r m (u ++ v) → Accepting r (after r.targets m u) v
  accepting_back m u v a = subst (λ (s : ℕ). shares s r.finals ≡ true) (after-append r.targets m u v) a

  pub alive_before : (m : ℕ) (u v : List ℕ) → m < 2 ^ r.n → shares (after r.targets m (u ++ v)) lives ≡ true → shares (after r.targets m u) lives ≡ true
  alive_before m u v below e =
      let ts = r.targets in
      let x = alive_text (after ts m (u ++ v)) (after_below r good m (u ++ v) below) e in
      let y : Accepting r (after ts (after ts m u) v) x.0 = subst (λ (s : ℕ). Accepting r s x.0) (after-append ts m u v) x.2 in
      alive_by (after ts m u) (after_below r good m u below) (v ++ x.0) (accepting_on (after ts m u) v x.0 y)

  dead_on : (m : ℕ) (w : List ℕ) → m < 2 ^ r.n → shares m lives ≡ false → shares (after r.targets m w) lives ≡ false
  dead_on m w below e = by_test (shares (after r.targets m w) lives) (λ t. not_both (alive_before m [] w below t) e) (λ f. f)

  -- ---- a step over the pruned table
  abbrev masks : List ℕ
  masks = set_cells r.targets r.n r.k

  abbrev table : List ℕ
  table = next_cells r.targets r.n r.k

  abbrev pub cut : List ℕ
  cut = pruned masks table lives (length (sets r))

  few : length (sets r) ≤ 512
  unfolding too_many
  few = ltb-false 512 (length (sets r)) fit

  mask_is : (i s : ℕ) → i < length (sets r) → s < r.k → mask_of masks (follow table i s) ≡ successor r.targets (get_or (sets r) i 0) s
  mask_is i s h l =
      let m : ℕ = successor r.targets (get_or (sets r) i 0) s in
      let step = follow_law subsets.claims r good fit i s h l in
      by_test (eqb m 0)
      (λ t. let z = eqb-true m 0 t in ap (mask_of masks) (step.0 z) ∙ sym z)
      (λ t.
      let there = step.1 (eqb-false m 0 t) in
      let j = follow table i s in
      rw (lt-ltb j 512 (omega (arith, there.0, few))) (mask_at subsets.claims r good fit j there.0 ∙ there.1))

  step_is : (i s : ℕ) → i < length (sets r) → s < r.k
      → step_of cut i s ≡ cond (shares (successor r.targets (get_or (sets r) i 0) s) lives) (follow table i s) 512
  step_is i s h l =
      let low : s % 16 ≡ s = omega (arith, l, good.symbols) in
      ap (follow cut i) low
      ∙ pruned_step masks table lives (length (sets r)) i s (omega (arith, h, few)) h (omega (arith, l, good.symbols))
      ∙ ap (λ (m : ℕ). cond (shares m lives) (follow table i s) 512) (mask_is i s h l)

  -- ---- a walk over it
  pub record Ends (m i : ℕ) (w : List ℕ) : Type 0 where
    pub dead : shares (after r.targets m w) lives ≡ false → walk_end cut i w ≡ 512
    pub alive : shares (after r.targets m w) lives ≡ true → (walk_end cut i w < 512) × (mask_of masks (walk_end cut i w) ≡ after r.targets m w)

  from_dead : (m : ℕ) (w : List ℕ) → m < 2 ^ r.n → shares m lives ≡ false → Ends m 512 w
  from_dead m w below e = record { dead = λ d. end_empty cut w; alive = λ a. not_both a (dead_on m w below e) }

  one_more : (m i j s : ℕ) (w : List ℕ) → step_of cut i s ≡ j → Ends (successor r.targets m s) j w → Ends m i (s ∷ w)
  unfolding end_by
  one_more m i j s w to rest = record {
    dead = λ d. ap (λ (x : ℕ). walk_end cut x w) to ∙ rest.dead d;
    alive = λ a. subst (λ (x : ℕ). (walk_end cut x w < 512) × (mask_of masks (walk_end cut x w) ≡ after r.targets (successor r.targets m s) w)) (sym to) (rest.alive a);
  }

  walked : (w : List ℕ) → Text r.k w → (i : ℕ) → i < length (sets r) → shares (get_or (sets r) i 0) lives ≡ true → Ends (get_or (sets r) i 0) i w
  unfolding end_by
  walked [] x i h live = record {
    dead = λ d. not_both live d;
    alive = λ a. (omega (arith, h, few), rw (lt-ltb i 512 (omega (arith, h, few))) (mask_at subsets.claims r good fit i h));
  }
  walked (s ∷ w) x i h live =
      let m : ℕ = successor r.targets (get_or (sets r) i 0) s in
      let step = step_is i s h x.0 in
      by_test (shares m lives)
      (λ t.
      let j = follow table i s in
      let ne : m ≡ 0 → ⊥ = λ z. let u = (shares_law m lives).0 t in no_member u.0 (subst (λ (y : ℕ). u.0 ∈ y) z u.1) in
      let there = (follow_law subsets.claims r good fit i s h x.0).1 ne in
      one_more (get_or (sets r) i 0) i j s w (step ∙ ap (λ (b : Bool). cond b j 512) t)
      (subst (λ (y : ℕ). Ends y j w) there.1
      (walked w x.1 j there.0 (subst (λ (y : ℕ). shares y lives ≡ true) (sym there.1) t))))
      (λ t.
      one_more (get_or (sets r) i 0) i 512 s w (step ∙ ap (λ (b : Bool). cond b (follow table i s) 512) t)
      (from_dead m w (successor_below r good (get_or (sets r) i 0) s) t))

  -- ---- a run from a live state
  abbrev begin : ℕ → ℕ
  begin q = get_or (built_of r).singles q 0

  from_state : (q : ℕ) → q < r.n → shares (single q) lives ≡ true → (w : List ℕ) → Text r.k w → Ends (single q) (begin q) w
  from_state q h live w text =
      let s = (build.claims).singles r good fit q h in
      let is : get_or (sets r) (begin q) 0 ≡ single q = sym (mask_at subsets.claims r good fit (begin q) s.0) ∙ s.1 in
      subst (λ (m : ℕ). Ends m (begin q) w) is
      (walked w text (begin q) s.0 (subst (λ (m : ℕ). shares m lives ≡ true) (sym is) live))

  -- ---- the runs from a set of live states
  module _ (run : ℕ) (below : run < 2 ^ r.n) (all_live : (q : ℕ) → q ∈ run → shares (single q) lives ≡ true) where
    state_of_lem : (q : ℕ) → q ∈ run → q < r.n
    state_of_lem q i = members_below r.n run q below i

    ends_of : (q : ℕ) → q ∈ run → (w : List ℕ) → Text r.k w → Ends (single q) (begin q) w
    ends_of q i w text = from_state q (state_of_lem q i) (all_live q i) w text

    one_alive : (u : List ℕ) → shares (after r.targets run u) lives ≡ true → (q : ℕ) × (q ∈ run) × (shares (after r.targets (single q) u) lives ≡ true)
    one_alive u e =
        let v = alive_text (after r.targets run u) (after_below r good run u below) e in
        let x = (accepting_law r good run (u ++ v.0) below).0 (accepting_on run u v.0 v.2) in
        let h = state_of_lem x.0 x.1 in (
          x.0,
          x.1,
          alive_by (after r.targets (single x.0) u) (after_below r good (single x.0) u (pow-lt h)) v.0
              (accepting_back (single x.0) u v.0 ((accepting_single r good x.0 (u ++ v.0) h).1 x.2)),
        )

    alive_one : (u : List ℕ) (q : ℕ) → q ∈ run → shares (after r.targets (single q) u) lives ≡ true → shares (after r.targets run u) lives ≡ true
    alive_one u q i e =
        let h = state_of_lem q i in
        let v = alive_text (after r.targets (single q) u) (after_below r good (single q) u (pow-lt h)) e in
        let x = (accepting_single r good q (u ++ v.0) h).0 (accepting_on (single q) u v.0 v.2) in
        alive_by (after r.targets run u) (after_below r good run u below) v.0
        (accepting_back run u v.0 ((accepting_law r good run (u ++ v.0) below).1 (q, i, x)))

    all_dead_lem : (u : List ℕ) → shares (after r.targets run u) lives ≡ false → (q : ℕ) → q ∈ run → shares (after r.targets (single q) u) lives ≡ false
    all_dead_lem u e q i = by_test (shares (after r.targets (single q) u) lives) (λ t. not_both (alive_one u q i t) e) (λ f. f)

    module _ (t : List ℕ) (text : Text r.k t) where
      abbrev ends : ℕ → ℕ
      ends q = cond (has run q) (mask_of masks (walk_end cut (begin q) t)) 0

      abbrev bytes : ℕ → ℕ
      bytes q = cond (has run q) (walk_looked cut (begin q) t) 0

      abbrev left : Bool
      left = some_left (runs_of masks cut (built_of r).singles run t).ends

      abbrev pub looked_up : ℕ
      looked_up = (runs_of masks cut (built_of r).singles run t).looked

      -- some run is left in the end
      end_at_lem : (q : ℕ) → q < 32 → get_or (runs_of masks cut (built_of r).singles run t).ends q 0 ≡ ends q
      end_at_lem q l = cell_of_lem 32 ends q 0 l

      pub left_alive : left ≡ true → shares (after r.targets run t) lives ≡ true
      left_alive e =
          let x = any_found (λ q. ltb 0 (get_or (runs_of masks cut (built_of r).singles run t).ends q 0)) 32 e in
          let q = x.0 in
          let p : 0 < ends q = subst (λ (y : ℕ). 0 < y) (end_at_lem q x.1) (ltb-true 0 (get_or (runs_of masks cut (built_of r).singles run t).ends q 0) x.2) in
          by_test (has run q)
          (λ h.
          let i = member_of run q h in
          by_test (shares (after r.targets (single q) t) lives) (λ a. alive_one t q i a)
          (λ d.
          let z : ends q ≡ 0 = rw (h, (ends_of q i t text).dead d) in
          absurd (omega (arith, p, z))))
          (λ h. let z : ends q ≡ 0 = rw h in absurd (omega (arith, p, z)))

      none_alive : left ≡ false → (q : ℕ) → q ∈ run → shares (after r.targets (single q) t) lives ≡ false
      none_alive e q i =
          by_test (shares (after r.targets (single q) t) lives)
          (λ a.
          let l : q < 32 = omega (arith, state_of_lem q i, good.states) in
          let n = ltb-false 0 (get_or (runs_of masks cut (built_of r).singles run t).ends q 0)
          (none_at (λ p. ltb 0 (get_or (runs_of masks cut (built_of r).singles run t).ends p 0)) 32 q e l) in
          let is : ends q ≡ after r.targets (single q) t = ap (λ (b : Bool). cond b (mask_of masks (walk_end cut (begin q) t)) 0) (has_member run q i) ∙ ((ends_of q i t text).alive a).1 in
          let z : after r.targets (single q) t ≡ 0 = omega (arith, n, end_at_lem q l, is) in
          let u = (shares_law (after r.targets (single q) t) lives).0 a in
          absurd (no_member u.0 (subst (λ (y : ℕ). u.0 ∈ y) z u.1)))
          (λ f. f)

      -- no fewer bytes are looked up than are needed for every run to die
      pub needed : (i : ℕ) → i < looked_up → shares (after r.targets run (take i t)) lives ≡ true
      needed i l =
          by_test (shares (after r.targets run (take i t)) lives) (λ a. a)
          (λ d.
          absurd (omega (
            arith,
            l,
            greatest_most bytes i 32
                (λ q b.
                by_test (has run q)
                (λ h.
                let m = member_of run q h in
                let z = (ends_of q m (take i t) (text-take r.k t i text)).dead (all_dead_lem (take i t) d q m) in
                rw h (walks.looked_within (step_of cut) 512 (begin q) i t (omega (arith, z))))
                (λ h. rw h (omega arith))),
          )))

      -- and after so many every run is dead, where none is left in the end
      pub dies : left ≡ false → shares (after r.targets run (take looked_up t)) lives ≡ false
      dies e =
          by_test (shares (after r.targets run (take looked_up t)) lives)
          (λ a.
          let x = one_alive (take looked_up t) a in
          let q = x.0 in
          let n = walk_looked cut (begin q) t in
          let on = ((ends_of q x.1 (take looked_up t) (text-take r.k t looked_up text)).alive x.2).0 in
          let gone : walk_end cut (begin q) t ≡ 512 = (ends_of q x.1 t text).dead (none_alive e q x.1) in
          let low : begin q ≤ 512 = omega (arith, ((build.claims).singles r good fit q (state_of_lem q x.1)).0, few) in
          let most : n ≤ looked_up =
          subst (λ (y : ℕ). y ≤ looked_up) (ap (λ (b : Bool). cond b n 0) (has_member run q x.1))
          (term_greatest bytes 32 q (omega (arith, state_of_lem q x.1, good.states))) in
          let early : walk_end cut (begin q) (take n (take looked_up t)) ≡ 512 =
          ap (walk_end cut (begin q)) (take-take n looked_up t most) ∙ walks.end_looked (step_of cut) 512 within stays (begin q) t low ∙ gone in
          absurd (omega (arith, on, walks.end_stays (step_of cut) 512 within stays (begin q) n (take looked_up t) early)))
          (λ f. f)
        where
          within : (i b : ℕ) → step_of cut i b ≤ 512
          within i b = follow_within cut i (b % 16)

          stays : (b : ℕ) → step_of cut 512 b ≡ 512
          stays b = follow_empty cut 512 (b % 16) (omega arith)

-- C after the first places, and a text u behind them: a live state is reached from the delegates of
-- C's members by u exactly where some text can follow. Assumes a well-formed rule with at most 512 sets, and that the
-- places are filled.
--
-- The theorem of the join is used as it stands, for one place more, at which the text stands that
-- follows: what C accepts then is what the members of C before accept, each by its delegate.
use mathlib.Core.Path.{◌≡◌, refl, sym, ap, ◌∙◌, subst}
use mathlib.Core.Logic.{◌↔◌}
use mathlib.Core.Bool.{true, false, cond}
use mathlib.Core.List.{List, [], ◌∷◌, ◌++◌, flatten, append_assoc, append-nil}
use mathlib.Core.Option.{Option, none, some}
use Prim.Native.Nat.{ℕ, zero, suc, ◌+◌, ◌^◌, ◌<◌}
use native.Mathlib.Numerals.{add-one}
use lib.Dec.{eqb}
use lib.ListN.{length, get_or, length-append, get_or-append}
use lib.Pow.{pow-lt, pow_pos}
use lib.Seq.{get_or_at}
use borrow.Author.Tests.{ne_eqb, eqb-false}
use Rattle.base.specs.Options.{is_none}
use Rattle.base.proofs.Tests.{either}
use Rattle.marks.specs.Marks.{text_of}
use Rattle.masks.specs.Masks.{◌∈◌, has, single, union, shares}
use Rattle.masks.proofs.Laws.{no_member, has_member, some_member, members_below, below_of, single_law, part_of, in_union, union_lt, shares_law}
use Rattle.automaton.specs.declared.Rule.{Rule}
use Rattle.automaton.specs.Automaton.{Accepts, Text}
use Rattle.automaton.specs.Rules.{automaton_of, WellFormed}
use Rattle.automaton.specs.Successor.{after}
use Rattle.automaton.proofs.Laws.{after_below}
use Rattle.live.specs.Continued.{Continued}
use Rattle.subsets.specs.Claims.{fits}
use Rattle.delegates.specs.Alike.{AcceptsFrom, Delegate, delegate_in, of_delegate}
use Rattle.delegates.specs.Claims.{starts_in}
use Rattle.delegates.proofs.Alike.{run_text, live_alike, merged_some, delegates_start}
use Rattle.chunks.specs.Chunks.{delegate_set, end_set}
use Rattle.chunks.proofs.Claims as chunks
use Rattle.joins.specs.Joining.{join_of, yes_of}
use Rattle.joins.proofs.Acceptance.{Accepting, accepting_law, accepting_single}
use Rattle.joins.proofs.Claims as joins
use Rattle.histories.specs.History.{run_at, end_of, standing_text, joined_up_to}
use Rattle.histories.proofs.Running.{merged, delegate_below}
use Rattle.histories.proofs.VerdictClauses.{chunks_up_to, chunks_length, chunk_at, chunk_texts, texts_more, flatten_more, joined_is, filled}
use Rattle.losses.proofs.Living.{has_delegate, lives, lives_law, alive_text, alive_by, accepting_on, accepting_back}

text_append : (k : ℕ) (u v : List ℕ) → Text k u → Text k v → Text k (u ++ v)
text_append k [] v t s = s
text_append k (b ∷ u) v t s = (t.0, text_append k u v t.1 s)

text_end : (k : ℕ) (u v : List ℕ) → Text k (u ++ v) → Text k v
text_end k [] v t = t
text_end k (s ∷ u) v t = text_end k u v t.1

module _ (r : Rule) (good : WellFormed r) (fit : fits r) (at : ℕ → Option (List ℕ)) where
  abbrev delegates : List ℕ
  delegates = (starts_in r).delegates

  -- C after the first m places
  abbrev pub joined_at : ℕ → ℕ
  joined_at m = join_of (λ p q. end_of r p q (at p)) (delegate_in delegates) r.n r.initials m

  -- the delegates of its members
  abbrev pub live_at : ℕ → ℕ
  live_at m = delegate_set delegates r.n (joined_at m)

  -- a member of C with its delegate
  pub record Lives (m x : ℕ) : Type 0 where
    pub from : ℕ
    pub below : from < r.n
    pub member : from ∈ joined_at m
    pub told : delegate_in delegates from ≡ some x

  delegate_of_lem : (m x : ℕ) (l : Lives m x) → Delegate (automaton_of r) l.from (some x)
  delegate_of_lem m x l = merged_some (automaton_of r) delegates (starts_in r).startcount (merged r good fit) l.from x l.below l.told

  -- it is run at the next place
  runs : (m x : ℕ) → Lives m x → x ∈ run_at r m
  unfolding join_of
  runs zero x l = ((chunks.claims).delegate_law delegates r.n r.initials x).1 (l.from, l.below, l.member, l.told)
  runs (suc m) x l =
      ((chunks.claims).start_own delegates r.n x good.states.1).1 (
        (delegate_of_lem (suc m) x l).1.state,
        delegates_start (automaton_of r) delegates (starts_in r).startcount (merged r good fit) l.from x l.below l.told,
      )

  -- C is a set of states
  end_below : (p q : ℕ) (o : Option (List ℕ)) → q < r.n → end_of r p q o < 2 ^ r.n
  end_below p q none l = pow_pos r.n
  end_below p q (some w) l =
      either (has (run_at r p) q) (λ t. cond t (after r.targets (single q) (text_of w)) 0 < 2 ^ r.n) (after_below r good (single q) (text_of w) (pow-lt l)) (pow_pos r.n)

  adds_below : (p q : ℕ) → q < r.n → (o : Option ℕ) → delegate_in delegates q ≡ o → of_delegate (λ x. end_of r p x (at p)) o < 2 ^ r.n
  adds_below p q l none z = pow_pos r.n
  adds_below p q l (some x) z = end_below p x (at p) (delegate_below r good fit q x l z)

  pub joined_below : (m : ℕ) → joined_at m < 2 ^ r.n
  unfolding join_of
  joined_below zero = good.initials_below
  joined_below (suc m) =
      union_lt (λ q. of_delegate (λ x. end_of r m x (at m)) (delegate_in delegates q)) (joined_at m) r.n r.n (λ q l. adds_below m q l (delegate_in delegates q) refl)

  -- a delegate of a member, which is a live state
  delegated : (m x : ℕ) → x ∈ live_at m → Lives m x
  delegated m x i =
      let l = ((chunks.claims).delegate_law delegates r.n (joined_at m) x).0 i in
      record { from = l.0; below = l.1; member = l.2; told = l.3 }

  pub live_below : (m : ℕ) → live_at m < 2 ^ r.n
  live_below m = below_of r.n (live_at m) (λ x i. let l = delegated m x i in delegate_below r good fit l.from x l.below l.told)

  run_lives : (m x : ℕ) → x ∈ live_at m → x ∈ lives r good fit
  run_lives m x i =
      let l = delegated m x i in
      let d = delegate_of_lem m x l in
      (lives_law r good fit x).1 (d.1.state, live_alike (automaton_of r) l.from x d.1.alike d.0)

  pub all_live : (m x : ℕ) → x ∈ live_at m → shares (single x) (lives r good fit) ≡ true
  all_live m x i = (shares_law (single x) (lives r good fit)).1 (x, (single_law x x).1 refl, run_lives m x i)

  module _ (texts : (p : ℕ) (w : List ℕ) → at p ≡ some w → Text r.k (text_of w)) (m : ℕ) (full : (i : ℕ) → i < m → is_none (at i) ≡ false) where
    -- ---- with the text v at one place more
    module _ (v : List ℕ) (text : Text r.k v) where
      ws : List (List ℕ)
      ws = chunks_up_to at m ++ (v ∷ [])

      e : ℕ → ℕ → ℕ
      e p q = end_set r.targets (run_at r p) (get_or ws p []) q

      adds : ℕ → ℕ
      adds q = of_delegate (e m) (delegate_in delegates q)

      ws_length : length ws ≡ suc m
      unfolding ws
      ws_length = length-append (chunks_up_to at m) (v ∷ []) ∙ ap (λ (x : ℕ). x + 1) (chunks_length at m) ∙ add-one m

      ws_before : (i : ℕ) → i < m → get_or ws i [] ≡ standing_text (at i)
      unfolding ws
      ws_before i l = get_or-append (chunks_up_to at m) (v ∷ []) [] i (rw (chunks_length at m) l) ∙ chunk_at at m i l

      ws_last : get_or ws m [] ≡ v
      unfolding ws
      ws_last = get_or_at (chunks_up_to at m) v [] [] m (chunks_length at m)

      ws_text : flatten ws ≡ joined_up_to at m ++ v
      unfolding ws
      ws_text = flatten_more (chunks_up_to at m) v ∙ ap (λ (u : List ℕ). u ++ v) (sym (joined_is at m))

      same_join : join_of e (delegate_in delegates) r.n r.initials m ≡ joined_at m
      unfolding e
      same_join =
          (joins.claims).join_same e (λ p q. end_of r p q (at p)) (delegate_in delegates) r.n r.initials m
          (λ i q x l b s.
          ap (λ (w : List ℕ). end_set r.targets (run_at r i) w x) (ws_before i l)
          ∙ sym (filled r.targets (run_at r i) x (at i) (full i l)))

      joined-more : join_of e (delegate_in delegates) r.n r.initials (suc m) ≡ union adds (joined_at m) r.n
      unfolding join_of adds
      joined-more = ap (λ (c : ℕ). union (λ q. of_delegate (e m) (delegate_in delegates q)) c r.n) same_join

      -- the theorem of the join
      by_join : (yes_of e (delegate_in delegates) r.n r.initials r.finals (length ws) ≡ true) ↔ Accepts (automaton_of r) (flatten ws)
      unfolding ws e
      by_join =
          (joins.claims).join r good delegates (starts_in r).startcount (merged r good fit) e ws
          (texts_more r.k (chunks_up_to at m) v (chunk_texts r.k at texts m) text)
          (λ p l q b. refl)

      law : (shares (union adds (joined_at m) r.n) r.finals ≡ true) ↔ Accepts (automaton_of r) (joined_up_to at m ++ v)
      law =
          subst (λ (c : ℕ). (shares c r.finals ≡ true) ↔ Accepts (automaton_of r) (joined_up_to at m ++ v)) joined-more
          (subst (λ (x : ℕ). (yes_of e (delegate_in delegates) r.n r.initials r.finals x ≡ true) ↔ Accepts (automaton_of r) (joined_up_to at m ++ v)) ws_length
          (subst (λ (u : List ℕ). (yes_of e (delegate_in delegates) r.n r.initials r.finals (length ws) ≡ true) ↔ Accepts (automaton_of r) u) ws_text
          by_join))

      -- what is run adds its end set
      end_of_lem : (x : ℕ) → x ∈ run_at r m → e m x ≡ after r.targets (single x) v
      unfolding e
      end_of_lem x i = ap (λ (w : List ℕ). end_set r.targets (run_at r m) w x) ws_last ∙ rw (has_member (run_at r m) x i)

      added : (x : ℕ) (l : Lives m x) → adds l.from ≡ after r.targets (single x) v
      unfolding adds
      added x l = ap (of_delegate (e m)) l.told ∙ end_of_lem x (runs m x l)

      -- a member whose delegate accepts v makes C accept
      says_yes_lem : (x : ℕ) (l : Lives m x) → AcceptsFrom (automaton_of r) x v → shares (union adds (joined_at m) r.n) r.finals ≡ true
      says_yes_lem x l t =
          let u = (shares_law (after r.targets (single x) v) r.finals).0 ((accepting_single r good x v (delegate_of_lem m x l).1.state).1 t) in
          (shares_law (union adds (joined_at m) r.n) r.finals).1 (
            u.0,
            in_union adds (joined_at m) u.0 r.n l.from l.below l.member (subst (λ (z : ℕ). u.0 ∈ z) (sym (added x l)) u.1),
            u.2,
          )

      -- and where C accepts so, a member accepts v
      one : (q : ℕ) → q < r.n → q ∈ joined_at m → (s : ℕ) → s ∈ adds q → s ∈ r.finals → (o : Option ℕ) → delegate_in delegates q ≡ o → AcceptsFrom (automaton_of r) q v
      unfolding adds
      one q l i s t f none z = absurd (no_member s (subst (λ (o : Option ℕ). s ∈ of_delegate (e m) o) z t))
      one q l i s t f (some x) z =
          let lives : Lives m x = record { from = q; below = l; member = i; told = z } in
          let d = delegate_of_lem m x lives in
          let there : s ∈ after r.targets (single x) v = subst (λ (k : ℕ). s ∈ k) (ap (of_delegate (e m)) z ∙ end_of_lem x (runs m x lives)) t in
          (d.1.alike v text).1
          ((accepting_single r good x v d.1.state).0 ((shares_law (after r.targets (single x) v) r.finals).1 (s, there, f)))

      -- C accepts v exactly where the rule accepts the text of the places and v behind it
      pub rest_law : Accepting r (joined_at m) v ↔ Accepts (automaton_of r) (joined_up_to at m ++ v)
      rest_law = (
        (λ y.
            let u = (accepting_law r good (joined_at m) v (joined_below m)).0 y in
            let l = members_below r.n (joined_at m) u.0 (joined_below m) u.1 in
            let x = has_delegate r good fit u.0 l (record { text = v; accepts = u.2 }) in
            let lives : Lives m x.0 = record { from = u.0; below = l; member = u.1; told = x.1 } in
            law.0 (says_yes_lem x.0 lives (((delegate_of_lem m x.0 lives).1.alike v text).0 u.2))),
        λ t.
            let u = (shares_law (union adds (joined_at m) r.n) r.finals).0 (law.1 t) in
            let p = part_of adds (joined_at m) u.0 r.n u.1 in
            (accepting_law r good (joined_at m) v (joined_below m)).1
            (p.from, p.member, one p.from p.below p.member u.0 p.there u.2 (delegate_in delegates p.from) refl),
      )

    -- so do the delegates of its members
    pub run_law : (v : List ℕ) → Text r.k v → Accepting r (live_at m) v ↔ Accepts (automaton_of r) (joined_up_to at m ++ v)
    run_law v text = (
      (λ y.
          let u = (accepting_law r good (live_at m) v (live_below m)).0 y in
          let l = delegated m u.0 u.1 in
          (rest_law v text).0 ((accepting_law r good (joined_at m) v (joined_below m)).1 (l.from, l.member, ((delegate_of_lem m u.0 l).1.alike v text).1 u.2))),
      λ t.
          let u = (accepting_law r good (joined_at m) v (joined_below m)).0 ((rest_law v text).1 t) in
          let l = members_below r.n (joined_at m) u.0 (joined_below m) u.1 in
          let x = has_delegate r good fit u.0 l (record { text = v; accepts = u.2 }) in
          let lives : Lives m x.0 = record { from = u.0; below = l; member = u.1; told = x.1 } in
          (accepting_law r good (live_at m) v (live_below m)).1 (
            x.0,
            ((chunks.claims).delegate_law delegates r.n (joined_at m) x.0).1 (u.0, l, u.1, x.1),
            ((delegate_of_lem m x.0 lives).1.alike v text).0 u.2,
          ),
    )

    -- ---- with the text u behind the first m places
    module _ (u : List ℕ) (text : Text r.k u) where
      abbrev reached : ℕ
      reached = after r.targets (live_at m) u

      reached_below : reached < 2 ^ r.n
      reached_below = after_below r good (live_at m) u (live_below m)

      pub continues : shares reached (lives r good fit) ≡ true → Continued (automaton_of r) (joined_up_to at m ++ u)
      continues e =
          let x = alive_text r good fit reached reached_below e in
          let v = x.0 in
          record {
            rest = v;
            accepts =
                subst (Accepts (automaton_of r)) (sym (append_assoc (joined_up_to at m) u v))
                ((run_law (u ++ v) (text_append r.k u v text x.1)).0 (accepting_on r good fit (live_at m) u v x.2));
          }

      pub live_left : Continued (automaton_of r) (joined_up_to at m ++ u) → shares reached (lives r good fit) ≡ true
      live_left c =
          let v = c.rest in
          let rest = text_end r.k (joined_up_to at m ++ u) v (run_text (automaton_of r) c.accepts.run) in
          let y = (run_law (u ++ v) (text_append r.k u v text rest)).1 (subst (Accepts (automaton_of r)) (append_assoc (joined_up_to at m) u v) c.accepts) in
          alive_by r good fit reached reached_below v (accepting_back r good fit (live_at m) u v y)

    -- ---- with none behind them
    pub continues_all : eqb (live_at m) 0 ≡ false → Continued (automaton_of r) (joined_up_to at m)
    continues_all ne =
        let x = some_member (live_at m) (eqb-false (live_at m) 0 ne) in
        subst (Continued (automaton_of r)) (append-nil (joined_up_to at m)) (continues [] tt ((shares_law (live_at m) (lives r good fit)).1 (x.0, x.1, run_lives m x.0 x.1)))

    pub live_all : Continued (automaton_of r) (joined_up_to at m) → eqb (live_at m) 0 ≡ false
    live_all c =
        let e = live_left [] tt (subst (Continued (automaton_of r)) (sym (append-nil (joined_up_to at m))) c) in
        let u = (shares_law (live_at m) (lives r good fit)).0 e in
        ne_eqb (live_at m) 0 (λ z. no_member u.0 (subst (λ (y : ℕ). u.0 ∈ y) z u.1))

-- The reduced rule is well formed, and its automaton is that of the rule with alike states made
-- one. Assumes a well-formed rule and a list of what stands for its states.
--
--   delegated-law     the delegates of the members of a set
--   Stays, stays_in   what a state that stays is the delegate of
--   closed            where an arc leads from a state that stays, the delegate stays
--   target-law        the masks of the new table
--   well_formed, quotient, reached_in
use mathlib.Core.Path.{◌≡◌, refl, sym, ap, subst}
use mathlib.Core.Logic.{⊎_elim}
use mathlib.Core.Bool.{Bool, true, false, cond}
use mathlib.Core.List.{List, [], ◌∷◌, ◌++◌}
use mathlib.Core.Option.{Option, none, some}
use Prim.Native.Nat.{ℕ, zero, suc, ◌^◌, ◌≤◌, ◌<◌}
use native.Mathlib.Omega.{arith}
use lib.Dec.{eqb, ltb}
use borrow.Author.Tests.{lt-ltb, eq-eqb, eqb-true}
use Rattle.base.proofs.Tests.{by_test}
use Rattle.masks.specs.Masks.{bit, ◌∈◌, single}
use Rattle.masks.proofs.Laws.{no_member, or_cases, or_left, or_right, single_law, members_below, below_of, empty_mask, part_of, in_union}
use Rattle.masks.specs.Turns.{rank, turns}
use Rattle.masks.proofs.Turns.{bit_lt, in_turns, rank_most, still}
use Rattle.automaton.specs.declared.Rule.{Rule}
use Rattle.automaton.specs.Automaton.{Automaton, Arc, stay, move}
use Rattle.automaton.specs.Rules.{target_mask, automaton_of, WellFormed}
use Rattle.automaton.specs.Successor.{successor, Reached}
use Rattle.automaton.proofs.Laws.{arc_of, successor_law}
use Rattle.automaton.proofs.Values.{table_law}
use Rattle.delegates.specs.Alike.{Alike, Live, delegate_in, of_delegate}
use Rattle.reducing.specs.Reduced.{gather, delegated, onward, rounds, kept_of, renamed, targets_of, reduced_by}
use Rattle.reducing.proofs.Ranks.{rank_less, rank_once, renamed_law, gathered, in_gather}
use Rattle.reducing.proofs.Quotient.{Quotient, run_join}

-- ---- the delegates of a set
said_by_lem : (x : ℕ) (o : Option ℕ) → x ∈ of_delegate single o → o ≡ some x
said_by_lem x none e = absurd (no_member x e)
said_by_lem x (some y) e = ap some (sym ((single_law y x).0 e))

pub picked : (p : ℕ) (t u : Bool) (m : ℕ) → t ≡ true → u ≡ true → p ∈ m → p ∈ cond t (cond u m 0) 0
picked p t u m f g e = rw (f, g) e

pub in_both : (p : ℕ) (t u : Bool) (m : ℕ) → p ∈ cond t (cond u m 0) 0 → p ∈ m
in_both p true true m e = e
in_both p true false m e = absurd (no_member p e)
in_both p false u m e = absurd (no_member p e)

module _ (d : List ℕ) (m x : ℕ) where
  pub delegate_in_lem : x ∈ delegated d m → (q : ℕ) × (q ∈ m) × (delegate_in d q ≡ some x)
  delegate_in_lem e =
      let u = part_of (λ q. of_delegate single (delegate_in d q)) m x 32 e in
      (u.from, u.member, said_by_lem x (delegate_in d u.from) u.there)

  pub in_delegated : (q : ℕ) → q < 32 → q ∈ m → delegate_in d q ≡ some x → x ∈ delegated d m
  in_delegated q l i e =
      in_union (λ q. of_delegate single (delegate_in d q)) m x 32 q l i
      (subst (λ (o : Option ℕ). x ∈ of_delegate single o) (sym e) ((single_law x x).1 refl))

-- what stands for a state, in a list: at least for the states of a set that has the initial states
-- and where arcs lead from its members
pub record Choice (a : Automaton) (In : ℕ → Type 0) (D : ℕ → Option ℕ → Type 0) (d : List ℕ) : Type 0 where
  pub initial : (q : ℕ) → a.Initial q → In q
  pub onward : (x s t : ℕ) → In x → Arc a x s t → In t
  pub said : (q : ℕ) → In q → D q (delegate_in d q)
  pub single : (q : ℕ) (o u : Option ℕ) → D q o → D q u → o ≡ u
  pub state : (q x : ℕ) → D q (some x) → x < a.n
  pub inside : (q x : ℕ) → D q (some x) → In x
  pub own : (q x : ℕ) → D q (some x) → D x (some x)
  pub alike : (q x : ℕ) → D q (some x) → Alike a q x
  pub dead : (q : ℕ) → D q none → Live a q → ⊥

module _ (r : Rule) (good : WellFormed r) (d : List ℕ) (In : ℕ → Type 0) (D : ℕ → Option ℕ → Type 0) (C : Choice (automaton_of r) In D d) where
  abbrev a : Automaton
  a = automaton_of r

  abbrev first : ℕ
  first = delegated d r.initials

  abbrev step : ℕ → ℕ
  step i = rounds r.targets d first i

  abbrev kept : ℕ
  kept = kept_of r.targets d r.initials

  abbrev new : Rule
  new = reduced_by r d kept

  abbrev b : Automaton
  b = automaton_of new

  row : (q : ℕ) → q < r.n → q < 32
  row q l = omega (arith, good.states)

  -- ---- what the list says stands for a state
  is_chosen : (q x : ℕ) → In q → delegate_in d q ≡ some x → D q (some x)
  is_chosen q x l e = subst (D q) e (C.said q l)

  said : (q x : ℕ) → In q → D q (some x) → delegate_in d q ≡ some x
  said q x l f = C.single q (delegate_in d q) (some x) (C.said q l) f

  live_some : (q : ℕ) → In q → Live a q → (x : ℕ) × D q (some x)
  live_some q l h = of (delegate_in d q) (C.said q l)
    where
      of : (o : Option ℕ) → D q o → (x : ℕ) × D q (some x)
      of none f = absurd (C.dead q f h)
      of (some x) f = (x, f)

  -- ---- the states that stay are delegates
  record Stays (x : ℕ) : Type 0 where
    of : ℕ
    chosen : D of (some x)

  stays_first : (x : ℕ) → x ∈ first → Stays x
  stays_first x e =
      let u = delegate_in_lem d r.initials x e in
      record { of = u.0; chosen = is_chosen u.0 x (C.initial u.0 u.1) u.2 }

  -- a step leads there from a member by an arc
  record Led (m x : ℕ) : Type 0 where
    from : ℕ
    symbol : ℕ
    through : ℕ
    member : from ∈ m
    arc : Arc a from symbol through
    chosen : D through (some x)

  led : (m x : ℕ) → ((q : ℕ) → q ∈ m → In q) → x ∈ gather (λ s. delegated d (successor r.targets m s)) 16 → Led m x
  led m x within e =
      let u = gathered (λ s. delegated d (successor r.targets m s)) x 16 e in
      let v = delegate_in_lem d (successor r.targets m u.0) x u.2 in
      let w = (successor_law r good m u.0 v.0).0 v.1 in
      record {
        from = w.0;
        symbol = u.0;
        through = v.0;
        member = w.1;
        arc = w.2;
        chosen = is_chosen v.0 x (C.onward w.0 u.0 v.0 (within w.0 w.1) w.2) v.2;
      }

  stay_in : (q : ℕ) → Stays q → In q
  stay_in q u = C.inside u.of q u.chosen

  stays_in : (i x : ℕ) → x ∈ step i → Stays x
  unfolding turns
  stays_in zero x e = stays_first x e
  stays_in (suc i) x e =
      ⊎_elim
      (λ h. stays_in i x h)
      (λ h. let u = led (step i) x (λ q l. stay_in q (stays_in i q l)) h in record { of = u.through; chosen = u.chosen })
      (or_cases (step i) (gather (λ s. delegated d (successor r.targets (step i) s)) 16) x e)

  adds : (m x : ℕ) → x ∈ m → x ∈ onward r.targets d m
  adds m x e = or_left m (gather (λ s. delegated d (successor r.targets m s)) 16) x e

  few : (i x : ℕ) → x ∈ step i → x < 32
  few i x e = let u = stays_in i x e in row x (C.state u.of x u.chosen)

  pub own : (x : ℕ) → x ∈ kept → D x (some x)
  own x e = let u = stays_in 32 x e in C.own u.of x u.chosen

  pub kept_state : (x : ℕ) → x ∈ kept → x < r.n
  kept_state x e = C.state x x (own x e)

  kept_in : (x : ℕ) → x ∈ kept → In x
  kept_in x e = C.inside x x (own x e)

  -- where an arc leads from a state that stays
  next_in_lem : (x s t : ℕ) → x ∈ kept → Arc a x s t → In t
  next_in_lem x s t e j = C.onward x s t (kept_in x e) j

  pub few_kept : (x : ℕ) → x ∈ kept → x < 32
  few_kept x e = few 32 x e

  pub no_bit : (q : ℕ) → r.n ≤ q → bit kept q ≡ 0
  no_bit q l = by (bit kept q) refl (bit_lt kept q)
    where
      by : (x : ℕ) → bit kept q ≡ x → x < 2 → x ≡ 0
      by zero e h = refl
      by (suc x) e h = let one : bit kept q ≡ 1 = omega arith in absurd (omega (arith, kept_state q one))

  -- ---- where an arc leads stays
  pub closed : (x s t y : ℕ) → x ∈ kept → Arc a x s t → D t (some y) → y ∈ kept
  closed x s t y e j f =
      let there : t ∈ successor r.targets kept s = (successor_law r good kept s t).1 (x, e, j) in
      let one : y ∈ delegated d (successor r.targets kept s) =
      in_delegated d (successor r.targets kept s) y t (row t j.target) there (said t y (next_in_lem x s t e j) f) in
      let low : s < 16 = omega (arith, j.symbol, good.symbols) in
      subst (λ (m : ℕ). y ∈ m) (still (onward r.targets d) first adds 32 few)
      (or_right kept (gather (λ z. delegated d (successor r.targets kept z)) 16) y
      (in_gather (λ z. delegated d (successor r.targets kept z)) y 16 s low one))

  pub begun : (q x : ℕ) → q ∈ r.initials → D q (some x) → x ∈ first
  begun q x e f =
      let l = members_below r.n r.initials q good.initials_below e in
      in_delegated d r.initials x q (row q l) e (said q x (C.initial q e) f)

  pub first-kept : (x : ℕ) → x ∈ first → x ∈ kept
  first-kept x e = in_turns (onward r.targets d) first adds x e 32

  -- ---- the new table
  count : ℕ
  count = rank kept 32

  below_count : (x : ℕ) → x ∈ kept → rank kept x < count
  unfolding count
  below_count x e = rank_less kept x 32 e (few_kept x e)

  record NewArc (p s p' : ℕ) : Type 0 where
    from : ℕ
    through : ℕ
    to : ℕ
    stays : from ∈ kept
    is : rank kept from ≡ p
    arc : Arc a from s through
    chosen : D through (some to)
    to_stays : to ∈ kept
    to_is : p' ≡ rank kept to

  of_row : (p s p' : ℕ) → p' ∈ targets_of r.targets d kept p s → NewArc p s p'
  of_row p s p' e =
      let f : ℕ → ℕ = λ q. cond (eqb (rank kept q) p) (renamed kept (delegated d (target_mask r.targets q s))) 0 in
      let u = part_of f kept p' 32 e in
      let x = u.from in
      let there : p' ∈ cond (eqb (rank kept x) p) (renamed kept (delegated d (target_mask r.targets x s))) 0 = u.there in
      by_test (eqb (rank kept x) p)
      (λ t.
      let v = (renamed_law kept (delegated d (target_mask r.targets x s)) p' few_kept).0 (rw t at there) in
      let w = delegate_in_lem d (target_mask r.targets x s) v.0 v.2 in
      let j = arc_of r good x s w.0 u.below w.1 in
      record {
        from = x;
        through = w.0;
        to = v.0;
        stays = u.member;
        is = eqb-true (rank kept x) p t;
        arc = j;
        chosen = is_chosen w.0 v.0 (next_in_lem x s w.0 u.member j) w.2;
        to_stays = v.1;
        to_is = v.3;
      })
      (λ t. absurd (no_member p' (rw t at there)))

  in_row : (x s t y : ℕ) → x ∈ kept → Arc a x s t → D t (some y)
      → rank kept y ∈ targets_of r.targets d kept (rank kept x) s
  in_row x s t y e j f =
      let g : ℕ → ℕ = λ q. cond (eqb (rank kept q) (rank kept x)) (renamed kept (delegated d (target_mask r.targets q s))) 0 in
      let there : y ∈ delegated d (target_mask r.targets x s) =
      in_delegated d (target_mask r.targets x s) y t (row t j.target) j.there (said t y (next_in_lem x s t e j) f) in
      let z = (renamed_law kept (delegated d (target_mask r.targets x s)) (rank kept y) few_kept).1 (y, closed x s t y e j f, there, refl) in
      in_union g kept (rank kept y) 32 x (few_kept x e) e
      (rw (eq-eqb (rank kept x) (rank kept x) refl) z)

  new_mask : (p s : ℕ) → target_mask new.targets p s
      ≡ cond (ltb s 16) (cond (ltb p count) (targets_of r.targets d kept p s) 0) 0
  unfolding count
  new_mask p s = table_law (rank kept 32) (targets_of r.targets d kept) p s (rank_most kept 32)

  of_mask : (p s p' : ℕ) → p' ∈ target_mask new.targets p s → NewArc p s p'
  of_mask p s p' e =
      of_row p s p'
      (in_both p' (ltb s 16) (ltb p count) (targets_of r.targets d kept p s) (subst (λ (x : ℕ). p' ∈ x) (new_mask p s) e))

  to_mask : (x s t y : ℕ) → x ∈ kept → Arc a x s t → D t (some y) → rank kept y ∈ target_mask new.targets (rank kept x) s
  to_mask x s t y e j f =
      subst (λ (z : ℕ). rank kept y ∈ z) (sym (new_mask (rank kept x) s))
      (picked (rank kept y) (ltb s 16) (ltb (rank kept x) count) (targets_of r.targets d kept (rank kept x) s)
      (lt-ltb s 16 (omega (arith, j.symbol, good.symbols)))
      (lt-ltb (rank kept x) count (below_count x e))
      (in_row x s t y e j f))

  -- ---- the new rule
  below_new : (x : ℕ) → x ∈ kept → rank kept x < new.n
  unfolding count
  below_new x e = omega (arith, below_count x e)

  renamed_below : (m : ℕ) → renamed kept m < 2 ^ new.n
  renamed_below m =
      below_of new.n (renamed kept m)
      (λ p e. let u = (renamed_law kept m p few_kept).0 e in rw u.3 (below_new u.0 u.1))

  pub well_formed : WellFormed new
  well_formed = record {
    states = (omega arith, omega (arith, rank_most kept 32));
    symbols = good.symbols;
    initials_below = renamed_below (delegated d r.initials);
    finals_below = renamed_below r.finals;
    targets_below = λ p s l.
        below_of new.n (target_mask new.targets p s)
        (λ p' e. let u = of_mask p s p' e in rw u.to_is (below_new u.to u.to_stays));
    zero_outside = λ p s l o.
        empty_mask (target_mask new.targets p s)
        (λ p' e.
        let u = of_mask p s p' e in
        ⊎_elim
        (λ h. omega (arith, h, u.is, below_new u.from u.stays))
        (λ h. omega (arith, h, u.arc.symbol))
        o);
  }

  arc_to_lem : (x s t y : ℕ) → x ∈ kept → Arc a x s t → D t (some y) → (y ∈ kept) × Arc b (rank kept x) s (rank kept y)
  arc_to_lem x s t y e j f =
      let stays = closed x s t y e j f in (
        stays,
        record { source = below_new x e; symbol = j.symbol; target = below_new y stays; there = to_mask x s t y e j f },
      )

  pub quotient : Quotient a b D (λ x. x ∈ kept) (rank kept)
  quotient = record {
    symbols = refl;
    states = below_new;
    state = kept_state;
    alike = C.alike;
    arc_to_lem = arc_to_lem;
    arc_from = λ x s p e j.
        let u = of_mask (rank kept x) s p j.there in
        let same : u.from ≡ x = rank_once kept u.from x u.stays e u.is in
        record {
          through = u.through;
          to = u.to;
          from = subst (λ (z : ℕ). Arc a z s u.through) same u.arc;
          chosen = u.chosen;
          kept = u.to_stays;
          is = u.to_is;
        };
    arc_live = λ x s t e j h. live_some t (next_in_lem x s t e j) h;
    initial_to = λ q x e f.
        let i = begun q x e f in
        let k = first-kept x i in
        (k, (renamed_law kept first (rank kept x) few_kept).1 (x, k, i, refl));
    initial_from = λ p e.
        let u = (renamed_law kept first p few_kept).0 e in
        let v = delegate_in_lem d r.initials u.0 u.2 in
        record {
          through = v.0;
          to = u.0;
          from = v.1;
          chosen = is_chosen v.0 u.0 (C.initial v.0 v.1) v.2;
          kept = u.1;
          is = u.3;
        };
    initial_live = λ q e h. live_some q (C.initial q e) h;
    final_to = λ x e f. (renamed_law kept r.finals (rank kept x) few_kept).1 (x, e, f, refl);
    final_from = λ x e f.
        let u = (renamed_law kept r.finals (rank kept x) few_kept).0 f in
        subst (λ (z : ℕ). z ∈ r.finals) (sym (rank_once kept x u.0 e u.1 u.3)) u.2;
  }

  -- ---- every state that stays is reached
  pub record Arrives (x : ℕ) : Type 0 where
    pub stays : x ∈ kept
    pub text : List ℕ
    pub reached : Reached b new.initials text (rank kept x)

  arrives : (i x : ℕ) → x ∈ step i → Arrives x
  unfolding turns
  arrives zero x e =
      let k = first-kept x e in
      record {
        stays = k;
        text = [];
        reached = record {
          from = rank kept x;
          member = (renamed_law kept first (rank kept x) few_kept).1 (x, k, e, refl);
          run = stay (below_new x k);
        };
      }
  arrives (suc i) x e =
      ⊎_elim
      (λ h. arrives i x h)
      (λ h.
      let u = led (step i) x (λ q l. stay_in q (stays_in i q l)) h in
      let v = arrives i u.from u.member in
      let j = arc_to_lem u.from u.symbol u.through x v.stays u.arc u.chosen in
      record {
        stays = j.0;
        text = v.text ++ (u.symbol ∷ []);
        reached = record {
          from = v.reached.from;
          member = v.reached.member;
          run = run_join b v.reached.run (move j.1 (stay j.1.target));
        };
      })
      (or_cases (step i) (gather (λ s. delegated d (successor r.targets (step i) s)) 16) x e)

  pub reached_in : (x : ℕ) → x ∈ kept → Arrives x
  reached_in x e = arrives 32 x e

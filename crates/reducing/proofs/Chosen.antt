-- What stands for a reachable state: the lowest reachable one alike to it. Assumes a well-formed
-- rule and the list of its automaton's delegates.
--
--   by_itself     each state stands for itself
--   reached_law   the set of reached states has the reachable ones
--   choice        the list of what stands for each
use mathlib.Core.Path.{◌≡◌, refl, sym, ap, ◌∙◌, subst}
use mathlib.Core.Logic.{◌↔◌, ⊎_elim}
use mathlib.Core.Bool.{Bool, true, false, cond, ◌&&◌, and-eq-true_iff}
use mathlib.Core.List.{List, [], ◌∷◌, ◌++◌}
use mathlib.Core.Option.{Option, none, some}
use Prim.Native.Nat.{ℕ, zero, suc, ◌<◌}
use native.Mathlib.Nat.{le_antisymm}
use native.Mathlib.Omega.{arith}
use lib.Dec.{eqb, ltb}
use lib.ListN.{get_or}
use borrow.Author.Tests.{ltb-true, lt-ltb, eq-eqb, eqb-true}
use Rattle.base.proofs.Tests.{by_test, zero_one, not_both}
use Rattle.base.proofs.Lists.{cell_of_lem}
use Rattle.masks.specs.Masks.{◌∈◌, has}
use Rattle.masks.proofs.Laws.{members_below, or_cases, has_member, member_of}
use Rattle.masks.specs.Turns.{turns}
use Rattle.automaton.specs.declared.Rule.{Rule}
use Rattle.automaton.specs.Automaton.{Automaton, Arc, Run, stay, move}
use Rattle.automaton.specs.Rules.{automaton_of, WellFormed}
use Rattle.automaton.specs.Successor.{successor}
use Rattle.automaton.proofs.Laws.{successor_law}
use Rattle.delegates.specs.Alike.{Alike, Live, Delegate, delegate_in, Merged}
use Rattle.delegates.specs.mirror.Classes.{first_from}
use Rattle.delegates.proofs.Alike.{said_some, said_none, some_said, alike_self, alike_back, alike_on, live_alike, merged_some, delegates_in_lem, same_delegate}
use Rattle.delegates.proofs.Tests.{found, le_by}
use Rattle.reducing.specs.Reduced.{gather, delegated, rounds, own_list, reached_of, chosen_cell, chosen_of}
use Rattle.reducing.specs.Claims.{Reachable, Stands}
use Rattle.reducing.proofs.Ranks.{gathered}
use Rattle.reducing.proofs.Quotient.{run_join}
use Rattle.reducing.proofs.Facts.{Choice, delegate_in_lem, begun, first-kept, closed}

own_said : (q : ℕ) → q < 32 → delegate_in own_list q ≡ some q
own_said q l =
    let e : get_or own_list q 0 ≡ q = cell_of_lem 32 (λ p. p) q 0 l in
    said_some own_list q (rw e l) ∙ ap some e

some_same : (x y : ℕ) → some x ≡ some y → x ≡ y
some_same x y e = cc

pub run_end : (a : Automaton) {q p : ℕ} {w : List ℕ} → Run a q w p → p < a.n
run_end a (stay l) = l
run_end a (move j u) = run_end a u

module _ (r : Rule) (good : WellFormed r) where
  abbrev a : Automaton
  a = automaton_of r

  abbrev Self : ℕ → Option ℕ → Type 0
  Self q o = (q < r.n) × (o ≡ some q)

  row : (q : ℕ) → q < r.n → q < 32
  row q l = omega (arith, good.states)

  pub by_itself : Choice a (λ q. q < r.n) Self own_list
  by_itself = record {
    initial = λ q e. members_below r.n r.initials q good.initials_below e;
    onward = λ x s t l j. j.target;
    said = λ q l. (l, own_said q (row q l));
    single = λ q o u f g. f.1 ∙ sym g.1;
    state = λ q x f. rw (some_same x q f.1) f.0;
    inside = λ q x f. rw (some_same x q f.1) f.0;
    own = λ q x f. (rw (some_same x q f.1) f.0, refl);
    alike = λ q x f. subst (λ (y : ℕ). Alike a q y) (sym (some_same x q f.1)) (alike_self a q);
    dead = λ q f l. zero_one (let e = f.1 in cc);
  }

  -- ---- the reached states
  abbrev reached : ℕ
  reached = reached_of r.targets r.initials

  abbrev step : ℕ → ℕ
  step i = rounds r.targets own_list (delegated own_list r.initials) i

  reach_in : (i x : ℕ) → x ∈ step i → Reachable r x
  unfolding turns
  reach_in zero x e =
      let u = delegate_in_lem own_list r.initials x e in
      let l = members_below r.n r.initials u.0 good.initials_below u.1 in
      let same : u.0 ≡ x = some_same u.0 x (sym (own_said u.0 (row u.0 l)) ∙ u.2) in
      ([], record { from = x; member = subst (λ (y : ℕ). y ∈ r.initials) same u.1; run = stay (rw same at l) })
  reach_in (suc i) x e =
      ⊎_elim
      (λ h. reach_in i x h)
      (λ h.
      let u = gathered (λ s. delegated own_list (successor r.targets (step i) s)) x 16 h in
      let v = delegate_in_lem own_list (successor r.targets (step i) u.0) x u.2 in
      let w = (successor_law r good (step i) u.0 v.0).0 v.1 in
      let same : v.0 ≡ x = some_same v.0 x (sym (own_said v.0 (row v.0 w.2.target)) ∙ v.2) in
      let j : Arc a w.0 u.0 x = subst (λ (y : ℕ). Arc a w.0 u.0 y) same w.2 in
      let before = reach_in i w.0 w.1 in (
        before.0 ++ (u.0 ∷ []),
        record {
          from = before.1.from;
          member = before.1.member;
          run = run_join a before.1.run (move j (stay j.target));
        },
      ))
      (or_cases (step i) (gather (λ s. delegated own_list (successor r.targets (step i) s)) 16) x e)

  run_reached : {q p : ℕ} {w : List ℕ} → q ∈ reached → Run a q w p → p ∈ reached
  run_reached e (stay l) = e
  run_reached e (move {q = q} {s = s} {r = t} j u) =
      run_reached (closed r good own_list (λ x. x < r.n) Self by_itself q s t t e j (j.target, refl)) u

  start_reached : (q : ℕ) → q ∈ r.initials → q ∈ reached
  start_reached q e =
      let l = members_below r.n r.initials q good.initials_below e in
      first-kept r good own_list (λ x. x < r.n) Self by_itself q
      (begun r good own_list (λ x. x < r.n) Self by_itself q q e (l, refl))

  pub reached_law : (x : ℕ) → x ∈ reached ↔ Reachable r x
  reached_law x = (reach_in 32 x, λ u. run_reached (start_reached u.1.from u.1.member) u.1.run)

  pub reached_state : (x : ℕ) → Reachable r x → x < r.n
  reached_state x u = run_end a u.1.run

  -- ---- what stands for each
  abbrev pub For : ℕ → Option ℕ → Type 0
  For q none = Live a q → ⊥
  For q (some x) = Stands r q x

  pub one_stands : (q x y : ℕ) → Stands r q x → Stands r q y → x ≡ y
  one_stands q x y f g = le_antisymm (f.lowest y g.reachable g.alike) (g.lowest x f.reachable f.alike)

  one : (q : ℕ) (o u : Option ℕ) → For q o → For q u → o ≡ u
  one q none none f g = refl
  one q none (some y) f g = absurd (f g.live)
  one q (some x) none f g = absurd (g f.live)
  one q (some x) (some y) f g = ap some (one_stands q x y f g)

  stands_own : (q x : ℕ) → Stands r q x → Stands r x x
  stands_own q x f = record {
    live = live_alike a q x f.alike f.live;
    reachable = f.reachable;
    alike = alike_self a x;
    lowest = λ p u h. f.lowest p u (alike_on a q x p f.alike h);
  }

  pub same_stands : (x y : ℕ) → Stands r x x → Stands r y y → Alike a x y → x ≡ y
  same_stands x y f g h = le_antisymm (f.lowest y g.reachable h) (g.lowest x f.reachable (alike_back a x y h))

  module _ (d : List ℕ) (starts : ℕ) (merged : Merged a d starts) where
    abbrev list : List ℕ
    list = chosen_of d reached

    is_cell : (q : ℕ) → q < 32 → get_or list q 0 ≡ chosen_cell d reached q
    is_cell q l = cell_of_lem 32 (chosen_cell d reached) q 0 l

    -- no delegate: none stands for it
    none_for : (q : ℕ) → q < r.n → delegate_in d q ≡ none → delegate_in list q ≡ none
    none_for q l e =
        let high : ltb (get_or d q 0) 32 ≡ false =
        by_test (ltb (get_or d q 0) 32)
        (λ t. let z = said_some d q (ltb-true (get_or d q 0) 32 t) in zero_one cc)
        (λ t. t) in
        let cell : chosen_cell d reached q ≡ 32 = off (has reached q) (ltb (get_or d q 0) 32) _ high in
        said_none list q (rw (is_cell q (row q l), cell) (omega arith))
      where
        off : (s t : Bool) (x : ℕ) → t ≡ false → cond (s && t) x 32 ≡ 32
        off true true x e = not_both refl e
        off true false x e = refl
        off false t x e = refl

    -- a delegate: the lowest reached state that has it stands for it
    some_for : (q x : ℕ) → q ∈ reached → Delegate a q (some x) → delegate_in d q ≡ some x → (y : ℕ) × (delegate_in list q ≡ some y) × Stands r q y
    some_for q x e f s =
        let l : q < r.n = reached_state q ((reached_law q).0 e) in
        let n = some_said d q x s in
        let low : get_or d q 0 < 32 = omega (arith, n) in
        let test : ℕ → Bool = λ p. has reached p && eqb (get_or d p 0) (get_or d q 0) in
        let here : test q ≡ true = (and-eq-true_iff (has reached q) (eqb (get_or d q 0) (get_or d q 0))).1 (has_member reached q e, eq-eqb (get_or d q 0) (get_or d q 0) refl) in
        let least = found test 0 q q (omega arith) here in
        let y : ℕ = first_from test 0 q in
        let cell : chosen_cell d reached q ≡ y = on (has reached q) (ltb (get_or d q 0) 32) y (has_member reached q e) (lt-ltb (get_or d q 0) 32 low) in
        let is : get_or list q 0 ≡ y = is_cell q (row q l) ∙ cell in
        let small : y < 32 = omega (arith, least.most, row q l) in
        let said : delegate_in list q ≡ some y = said_some list q (rw is small) ∙ ap some is in
        let both = (and-eq-true_iff (has reached y) (eqb (get_or d y 0) (get_or d q 0))).0 least.has in
        let there : y ∈ reached = member_of reached y both.0 in
        let same : get_or d y 0 ≡ get_or d q 0 = eqb-true (get_or d y 0) (get_or d q 0) both.1 in
        let dy : Delegate a y (some x) =
        merged_some a d starts merged y x (reached_state y ((reached_law y).0 there)) (said_some d y (rw same low) ∙ ap some (same ∙ n.0)) in (
          y,
          said,
          record {
            live = f.0;
            reachable = (reached_law y).0 there;
            alike = (same_delegate a q y x x f dy).1 refl;
            lowest = λ p u h.
                let k = reached_state p u in
                let pr = (reached_law p).1 u in
                let dp = of p (delegate_in d p) refl (delegates_in_lem a good.states.1 d starts merged p k) (live_alike a q p h f.0) in
                let z : x ≡ dp.0 = (same_delegate a q p x dp.0 f dp.2).0 h in
                let m = some_said d p dp.0 dp.1 in
                let w : get_or d p 0 ≡ get_or d q 0 = omega (arith, z, m.0, n.0) in
                let passes : test p ≡ true = (and-eq-true_iff (has reached p) (eqb (get_or d p 0) (get_or d q 0))).1 (has_member reached p pr, eq-eqb (get_or d p 0) (get_or d q 0) w) in
                le_by y p (λ b. least.first p (omega arith) b passes);
          },
        )
      where
        on : (s t : Bool) (v : ℕ) → s ≡ true → t ≡ true → cond (s && t) v 32 ≡ v
        on s t v i j = rw (i, j)

        of : (p : ℕ) (o : Option ℕ) → delegate_in d p ≡ o → Delegate a p o → Live a p → (v : ℕ) × (delegate_in d p ≡ some v) × Delegate a p (some v)
        of p none i f h = absurd (f h)
        of p (some v) i f h = (v, i, f)

    stands_for : (q : ℕ) → q ∈ reached → For q (delegate_in list q)
    stands_for q e =
        let l : q < r.n = reached_state q ((reached_law q).0 e) in
        of (delegate_in d q) refl l (delegates_in_lem a good.states.1 d starts merged q l)
      where
        of : (o : Option ℕ) → delegate_in d q ≡ o → q < r.n → Delegate a q o → For q (delegate_in list q)
        of none i l f = subst (For q) (sym (none_for q l i)) f
        of (some x) i l f = let u = some_for q x e f i in subst (For q) (sym u.1) u.2

    pub choice : Choice a (λ q. q ∈ reached) For list
    choice = record {
      initial = start_reached;
      onward = λ x s t e j. closed r good own_list (λ y. y < r.n) Self by_itself x s t t e j (j.target, refl);
      said = stands_for;
      single = one;
      state = λ q x f. reached_state x f.reachable;
      inside = λ q x f. (reached_law x).1 f.reachable;
      own = stands_own;
      alike = λ q x f. f.alike;
      dead = λ q f l. f l;
    }

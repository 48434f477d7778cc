-- The laws of alike states, live states and delegates, for every automaton. Assumes nothing.
--
--   one_lowest, own_lowest    of the lowest alike states
--   said_some, said_none      what a list of delegates says of a state
--   merged_some, merged_in    what a list of the automaton's delegates says
use mathlib.Core.Path.{◌≡◌, refl, sym, ap, ◌∙◌, subst}
use mathlib.Core.Logic.{◌↔◌}
use mathlib.Core.List.{List, []}
use mathlib.Core.Option.{Option, none, some}
use Prim.Native.Nat.{ℕ, zero, suc, ◌≤◌, ◌<◌}
use native.Mathlib.Nat.{le_antisymm}
use native.Mathlib.Omega.{arith}
use lib.Dec.{ltb}
use lib.ListN.{get_or}
use lib.Seq.{ext_get_or}
use borrow.Author.Tests.{lt-ltb, le-ltb, ltb-true, ltb-false, ne_eqb}
use Rattle.base.proofs.Tests.{by_test, zero_one}
use Rattle.automaton.specs.Automaton.{Automaton, Run, Text, stay, move}
use Rattle.delegates.specs.Alike.{Alike, Live, Lowest, Delegate, delegate_in, delegate_cell, start_count, Merged}

-- ---- what a list says
module _ (d : List ℕ) (q : ℕ) where
  pub said_some : get_or d q 0 < 32 → delegate_in d q ≡ some (get_or d q 0)
  unfolding delegate_in
  said_some h = rw (lt-ltb (get_or d q 0) 32 h)

  pub said_none : 32 ≤ get_or d q 0 → delegate_in d q ≡ none
  unfolding delegate_in
  said_none h = rw (le-ltb (get_or d q 0) 32 h)

  -- a state that it says is the number that stands there, and below 32
  pub some_said : (x : ℕ) → delegate_in d q ≡ some x → (get_or d q 0 ≡ x) × (x < 32)
  some_said x e =
      by_test (ltb (get_or d q 0) 32)
      (λ t.
      let h = ltb-true (get_or d q 0) 32 t in
      let s = said_some h in
      let z : get_or d q 0 ≡ x = cc in
      (z, rw z at h))
      (λ t. let s = said_none (ltb-false (get_or d q 0) 32 t) in zero_one cc)

module _ (a : Automaton) where
  -- ---- alike
  pub alike_self : (q : ℕ) → Alike a q q
  alike_self q w x = (λ t. t, λ t. t)

  pub alike_back : (q r : ℕ) → Alike a q r → Alike a r q
  alike_back q r h w x = ((h w x).1, (h w x).0)

  pub alike_on : (q r s : ℕ) → Alike a q r → Alike a r s → Alike a q s
  alike_on q r s h i w x = (λ t. (i w x).0 ((h w x).0 t), λ t. (h w x).1 ((i w x).1 t))

  -- ---- live
  -- the label of a run is a text
  pub run_text : {q p : ℕ} {w : List ℕ} → Run a q w p → Text a.k w
  run_text (stay l) = tt
  run_text (move j u) = (j.symbol, run_text u)

  pub final_live : (q : ℕ) → q < a.n → a.Final q → Live a q
  final_live q h f = record { text = []; accepts = record { to = q; ends = f; run = stay h } }

  pub none_live : ((q : ℕ) → a.Final q → ⊥) → (q : ℕ) → Live a q → ⊥
  none_live no-final q l = no-final l.accepts.to l.accepts.ends

  pub live_alike : (q r : ℕ) → Alike a q r → Live a q → Live a r
  live_alike q r h l = record { text = l.text; accepts = (h l.text (run_text l.accepts.run)).0 l.accepts }

  pub dead_alike : (q r : ℕ) → (Live a q → ⊥) → (Live a r → ⊥) → Alike a q r
  dead_alike q r h i w x =
      (λ t. absurd (h (record { text = w; accepts = t })), λ t. absurd (i (record { text = w; accepts = t })))

  -- ---- the lowest alike state
  lowest_le : (q r d e : ℕ) → Lowest a q d → Lowest a r e → Alike a q r → d ≤ e
  lowest_le q r d e f g h = f.lowest e g.state (alike_on q r e h g.alike)

  pub same_lowest : (q r d e : ℕ) → Lowest a q d → Lowest a r e → Alike a q r ↔ d ≡ e
  same_lowest q r d e f g = (
    (λ h. le_antisymm (lowest_le q r d e f g h) (lowest_le r q e d g f (alike_back q r h))),
    λ z. alike_on q e r (subst (λ (x : ℕ). Alike a q x) z f.alike) (alike_back r e g.alike),
  )

  pub one_lowest : (q d e : ℕ) → Lowest a q d → Lowest a q e → d ≡ e
  one_lowest q d e f g = (same_lowest q q d e f g).0 (alike_self q)

  pub own_lowest : (q d : ℕ) → Lowest a q d → Lowest a d d
  own_lowest q d f = record {
    state = f.state;
    alike = alike_self d;
    lowest = λ r l h. f.lowest r l (alike_on q d r f.alike h);
  }

  -- ---- delegates
  pub one_delegate : (q : ℕ) (o u : Option ℕ) → Delegate a q o → Delegate a q u → o ≡ u
  one_delegate q none none f g = refl
  one_delegate q none (some d) f g = absurd (f g.0)
  one_delegate q (some d) none f g = absurd (g f.0)
  one_delegate q (some d) (some e) f g = ap some (one_lowest q d e f.1 g.1)

  pub same_delegate : (q r d e : ℕ) → Delegate a q (some d) → Delegate a r (some e) → Alike a q r ↔ d ≡ e
  same_delegate q r d e f g = same_lowest q r d e f.1 g.1

  pub own_delegate : (q d : ℕ) → Delegate a q (some d) → Delegate a d (some d)
  own_delegate q d f = (live_alike q d f.1.alike f.0, own_lowest q d f.1)

  module _ (d : List ℕ) (m : ℕ) (given : Merged a d m) where
    -- a state that the list says is the delegate
    pub merged_some : (q x : ℕ) → q < a.n → delegate_in d q ≡ some x → Delegate a q (some x)
    merged_some q x h e = let u = given.delegates q h in let s = some_said d q x e in of u.0 u.1 (sym u.2 ∙ s.0) s.1
      where
        of : (o : Option ℕ) → Delegate a q o → delegate_cell o ≡ x → x < 32 → Delegate a q (some x)
        of none f z l = absurd (omega arith)
        of (some y) f z l = subst (λ (v : ℕ). Delegate a q (some v)) z f

    -- and a delegate below 32 is said
    merged_said : (q x : ℕ) → q < a.n → x < 32 → Delegate a q (some x) → delegate_in d q ≡ some x
    merged_said q x h l f =
        let u = given.delegates q h in
        let z : get_or d q 0 ≡ x = u.2 ∙ ap delegate_cell (one_delegate q u.0 (some x) u.1 f) in
        let low : get_or d q 0 < 32 = omega arith in
        said_some d q low ∙ ap some z

    pub delegates_start : (q x : ℕ) → q < a.n → delegate_in d q ≡ some x → delegate_in d x ≡ some x
    delegates_start q x h e =
        let f = merged_some q x h e in
        merged_said x x f.1.state (some_said d q x e).1 (own_delegate q x f)

    pub merged_in : a.n ≤ 32 → (q : ℕ) → q < a.n → Delegate a q (delegate_in d q)
    merged_in few q h = let u = given.delegates q h in of u.0 u.1 u.2
      where
        of : (o : Option ℕ) → Delegate a q o → get_or d q 0 ≡ delegate_cell o → Delegate a q (delegate_in d q)
        of none f z = let none_there : 32 ≤ get_or d q 0 = omega arith in subst (λ (o : Option ℕ). Delegate a q o) (sym (said_none d q none_there)) f
        of (some x) f z =
            let low : x < 32 = omega (arith, f.1.state) in
            subst (λ (o : Option ℕ). Delegate a q o) (sym (merged_said q x h low f)) f

    count_none : ((q : ℕ) → Live a q → ⊥) → a.n ≤ 32 → (n : ℕ) → n ≤ a.n → start_count d n ≡ 0
    unfolding start_count
    count_none dead few zero h = refl
    count_none dead few (suc q) h =
        let u = given.delegates q h in
        let z : get_or d q 0 ≡ 32 = u.2 ∙ ap delegate_cell (one_delegate q u.0 none u.1 (dead q)) in
        rw (ne_eqb (get_or d q 0) q (λ e. omega arith)) (omega (arith, count_none dead few q (omega arith)))

  pub none_start : a.n ≤ 32 → ((q : ℕ) → a.Final q → ⊥) → (d : List ℕ) (m : ℕ) → Merged a d m → m ≡ 0
  none_start few no-final d m given = given.starts ∙ count_none d m given (none_live no-final) few a.n (omega arith)

  pub delegates_in_lem : a.n ≤ 32 → (d : List ℕ) (m : ℕ) → Merged a d m → (q : ℕ) → q < a.n → Delegate a q (delegate_in d q)
  delegates_in_lem few d m given q h = merged_in d m given few q h

  same_list : (d e : List ℕ) (m k : ℕ) → Merged a d m → Merged a e k → d ≡ e
  same_list d e m k f g =
      ext_get_or 0 d e (f.cells ∙ sym g.cells)
      (λ q _.
      by_test (ltb q a.n)
      (λ t.
      let h = ltb-true q a.n t in
      let u = f.delegates q h in
      let v = g.delegates q h in
      u.2 ∙ ap delegate_cell (one_delegate q u.0 v.0 u.1 v.1) ∙ sym v.2)
      (λ t. let h = ltb-false q a.n t in f.zeros q h ∙ sym (g.zeros q h)))

  pub one_list : (d e : List ℕ) (m k : ℕ) → Merged a d m → Merged a e k → (d ≡ e) × (m ≡ k)
  one_list d e m k f g =
      let same = same_list d e m k f g in
      (same, f.starts ∙ ap (λ (l : List ℕ). start_count l a.n) same ∙ sym g.starts)

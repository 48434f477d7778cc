-- Document 004's construction, in document 01's order, is fixed by the automaton: two built rules
-- that have its sets, table, delegates and M have the same. Assumes nothing.
--
-- A set has one origin, a state and a text, and numbers go by the order of these: so the numbers of
-- the sets in one built rule rise with those in the other, both ways, and are the same.
use mathlib.Core.Path.{◌≡◌, refl, sym, ap, ◌∙◌, subst}
use mathlib.Core.Logic.Iff
use mathlib.Core.Logic.{◌⊎◌, inl, inr}
use mathlib.Core.List.{List}
use Prim.Native.Nat.{ℕ, zero, suc, ◌≤◌, ◌<◌}
use native.Mathlib.Omega.{arith}
use lib.Dec.{eqb, ltb}
use lib.ListN.{length, get_or}
use borrow.Author.Tests.{eqb-true, eqb-false, ltb-true, ltb-false}
use Rattle.base.specs.Lists.{list_from}
use Rattle.base.proofs.Lists.{length_list_from, cell_of_lem}
use Rattle.base.proofs.Tests.{by_test}
use Rattle.masks.proofs.Claims as masks
use Rattle.numbering.specs.Texts.{Sooner}
use Rattle.numbering.specs.Order.{Origin}
use Rattle.numbering.proofs.Numbers.{stands}
use Rattle.numbering.proofs.Pigeonhole.{at_most}
use Rattle.searches.proofs.Order.{not_after_all, one_text}
use Rattle.automaton.specs.Automaton.{Automaton}
use Rattle.delegates.proofs.Claims as delegates
use Rattle.build.specs.declared.Built.{Built}
use Rattle.histories.specs.Method.{Leads, Moves, set_at, next_at, Method}
use Rattle.transcripts.specs.Claims.{SameBuilt}

-- the sets of a built rule, in number order
abbrev sets_in : Built → List ℕ
sets_in b = list_from 0 b.setcount (set_at b)

many : (b : Built) → length (sets_in b) ≡ b.setcount
many b = length_list_from 0 b.setcount (set_at b)

module _ (a : Automaton) where
  -- each set of b has a number in c
  no_more : (b c : Built) → Method a b → Method a c → b.setcount ≤ c.setcount
  no_more b c m n =
      let fewer : length (sets_in b) ≤ length (sets_in c) =
      at_most (sets_in b) (sets_in c)
      (λ i j h l e.
      let x : i < b.setcount = omega (arith, many b) in
      let y : j < b.setcount = omega (arith, many b) in
      m.once i j x y (sym (cell_of_lem b.setcount (set_at b) i 0 x) ∙ e ∙ cell_of_lem b.setcount (set_at b) j 0 y))
      (λ i h.
      let x : i < b.setcount = omega (arith, many b) in
      let s = (n.sets (set_at b i)).1 ((m.sets (set_at b i)).0 (i, x, refl)) in
      stands (sets_in c) (get_or (sets_in b) i 0) s.0 (omega (arith, many c, s.1))
      (cell_of_lem c.setcount (set_at c) s.0 0 s.1 ∙ s.2 ∙ sym (cell_of_lem b.setcount (set_at b) i 0 x))) in
      omega (arith, many b, many c)

  -- ---- the numbers. A set has one origin
  one_origin : (m q p : ℕ) (w v : List ℕ) → Origin a.n (Leads a) m q w → Origin a.n (Leads a) m p v → (q ≡ p) × (w ≡ v)
  one_origin m q p w v x y =
      let same : q ≡ p = omega (arith, x.first_seed p v y.below y.leads, y.first_seed q w x.below x.leads) in (
        same,
        one_text w v (x.first_text v (subst (λ (z : ℕ). Leads a z v m) (sym same) y.leads))
            (y.first_text w (subst (λ (z : ℕ). Leads a z w m) same x.leads)),
      )

  abbrev Before : ℕ → List ℕ → ℕ → List ℕ → Type 0
  Before q w p v = (q < p) ⊎ ((q ≡ p) × Sooner w v)

  not_both_ways : (q p : ℕ) (w v : List ℕ) → Before q w p v → Before p v q w → ⊥
  not_both_ways q p w v (inl x) (inl y) = omega arith
  not_both_ways q p w v (inl x) (inr y) = omega (arith, y.0)
  not_both_ways q p w v (inr x) (inl y) = omega (arith, x.0)
  not_both_ways q p w v (inr x) (inr y) = not_after_all x.1 (inr y.1)

  module _ (b c : Built) (m : Method a b) (n : Method a c) where
    -- the number in c of set i of b
    found : (i : ℕ) → i < b.setcount → (k : ℕ) × (k < c.setcount) × (set_at c k ≡ set_at b i)
    found i l = (n.sets (set_at b i)).1 ((m.sets (set_at b i)).0 (i, l, refl))

    -- the numbers rise
    rises : (i j k l : ℕ) → i < j → j < b.setcount → k < c.setcount → l < c.setcount
        → set_at c k ≡ set_at b i → set_at c l ≡ set_at b j → k < l
    rises i j k l h bj ck cl e f =
        by_test (ltb k l) (λ t. ltb-true k l t)
        (λ t.
        let no_less = ltb-false k l t in
        by_test (eqb k l)
        (λ u.
        let same = eqb-true k l u in
        let x : i ≡ j = m.once i j (omega arith) bj (sym e ∙ ap (set_at c) same ∙ f) in
        absurd (omega arith))
        (λ u.
        let apart = eqb-false k l u in
        let o = m.order in
        let w = n.order in
        let first = one_origin (set_at b i) (o.from i) (w.from k) (o.text i) (w.text k) (o.origin i (omega arith))
        (subst (λ (z : ℕ). Origin a.n (Leads a) z (w.from k) (w.text k)) e (w.origin k ck)) in
        let second = one_origin (set_at b j) (o.from j) (w.from l) (o.text j) (w.text l) (o.origin j bj)
        (subst (λ (z : ℕ). Origin a.n (Leads a) z (w.from l) (w.text l)) f (w.origin l cl)) in
        absurd (not_both_ways (o.from i) (o.from j) (o.text i) (o.text j) (o.rises i j h bj)
        (rw (first.0, second.0, first.1, second.1) (w.rises l k (omega arith) ck)))))

    no_lower : (i k : ℕ) → i < b.setcount → k < c.setcount → set_at c k ≡ set_at b i → i ≤ k
    no_lower zero k bi ck e = omega arith
    no_lower (suc i) k bi ck e =
        let before = found i (omega arith) in
        let x = no_lower i before.0 (omega arith) before.1 before.2 in
        let y = rises i (suc i) before.0 k (omega arith) bi before.1 ck before.2 e in
        omega arith

module _ (a : Automaton) (b c : Built) (m : Method a b) (n : Method a c) where
  as_many : b.setcount ≡ c.setcount
  as_many = omega (arith, no_more a b c m n, no_more a c b n m)

  -- each set has the same number in both
  same_set : (i : ℕ) → i < b.setcount → set_at b i ≡ set_at c i
  same_set i l =
      let k = found a b c m n i l in
      let same : k.0 ≡ i = omega (arith, no_lower a b c m n i k.0 l k.1 k.2, no_lower a c b n m k.0 i k.1 l (sym k.2)) in
      sym k.2 ∙ ap (set_at c) same

  -- where the arcs of a set lead by a symbol is one set
  one_move : (l s x y : ℕ) → Moves a l s x → Moves a l s y → x ≡ y
  one_move l s x y u v = (masks.claims).same x y (λ p. Iff.trans (u p) ((v p).1, (v p).0))

  -- no set with a number is empty
  not_empty : (i : ℕ) → i < b.setcount → set_at b i ≡ 0 → ⊥
  not_empty i l = ((m.sets (set_at b i)).0 (i, l, refl)).0

  not_empty_there : (i : ℕ) → i < c.setcount → set_at c i ≡ 0 → ⊥
  not_empty_there i l = ((n.sets (set_at c i)).0 (i, l, refl)).0

  same_cell : (i s : ℕ) → i < b.setcount → s < a.k → next_at b i s ≡ next_at c i s
  same_cell i s h l = of (m.table i s h l) (n.table i s (omega (arith, as_many)) l)
    where
      there : (x : ℕ) → Moves a (set_at c i) s x → Moves a (set_at b i) s x
      there x v = subst (λ (z : ℕ). Moves a z s x) (sym (same_set i h)) v

      of : ((next_at b i s < b.setcount) × Moves a (set_at b i) s (set_at b (next_at b i s))) ⊎ ((next_at b i s ≡ 512) × Moves a (set_at b i) s 0)
          → ((next_at c i s < c.setcount) × Moves a (set_at c i) s (set_at c (next_at c i s))) ⊎ ((next_at c i s ≡ 512) × Moves a (set_at c i) s 0)
          → next_at b i s ≡ next_at c i s
      of (inl x) (inl y) =
          let low : next_at c i s < b.setcount = omega (arith, as_many, y.0) in
          m.once (next_at b i s) (next_at c i s) x.0 low
          (one_move (set_at b i) s (set_at b (next_at b i s)) (set_at c (next_at c i s)) x.1 (there (set_at c (next_at c i s)) y.1) ∙ sym (same_set (next_at c i s) low))
      of (inl x) (inr y) = absurd (not_empty (next_at b i s) x.0 (one_move (set_at b i) s (set_at b (next_at b i s)) 0 x.1 (there 0 y.1)))
      of (inr x) (inl y) =
          absurd (not_empty_there (next_at c i s) y.0 (one_move (set_at b i) s (set_at c (next_at c i s)) 0 (there (set_at c (next_at c i s)) y.1) x.1))
      of (inr x) (inr y) = x.0 ∙ sym y.0

  pub one_method : SameBuilt a.k b c
  one_method =
      let d = (delegates.claims).one_list a b.delegates c.delegates b.startcount c.startcount m.delegates n.delegates in
      record { sets = as_many; set = same_set; cell = same_cell; delegates = d.0; starts = d.1 }

-- The request's words fix every number of the result: two well-formed rules that are made of the
-- same two so are equal. Assumes well-formed rules with tables of 512 cells.
--
-- The route: every state is a pair, or of one of the two, so the words give the arcs, initial and
-- final states of each (`Within`, one direction at a time); two well-formed rules with the same of
-- them are equal (`same_value` of automaton).
use mathlib.Core.Path.{◌≡◌, sym, ◌∙◌, subst}
use Prim.Native.Nat.{ℕ, ◌+◌, ◌-◌, ◌<◌}
use native.Mathlib.Omega.{arith}
use lib.Dec.{ltb}
use lib.ListN.{length}
use borrow.Author.Tests.{ltb-true, ltb-false}
use Rattle.base.proofs.Tests.{by_test}
use Rattle.masks.proofs.Laws.{members_below}
use Rattle.automaton.specs.declared.Rule.{Rule}
use Rattle.automaton.specs.Automaton.{Automaton, Arc}
use Rattle.automaton.specs.Rules.{automaton_of, WellFormed}
use Rattle.automaton.proofs.Values.{Within, same_value}
use Rattle.products.specs.Products.{Moving, together, alone, pair_of}
use Rattle.products.specs.Words.{InPairs, SideBySide}
use Rattle.merging.specs.declared.Way.{Way}
use Rattle.merging.specs.declared.Way.TheVariants.{Both, Either, Interleaving}
use Rattle.merging.specs.Languages.{MadeBy}

-- ---- pairs
module _ (way : Moving) (a b c d : Automaton) (x : InPairs way a b c) (y : InPairs way a b d) where
  marked_to : (P R : ℕ → Type 0) → ((q : ℕ) → P q → q < c.n)
      → ((q1 q2 : ℕ) → q2 < b.n → P (pair_of b.n q1 q2) → R (pair_of b.n q1 q2)) → (q : ℕ) → P q → R q
  marked_to P R below pairs-to q t =
      let e = x.every q (below q t) in
      subst R (sym e.4) (pairs-to e.0 e.1 e.3 (subst P e.4 t))

  arcs_to : (q s p : ℕ) → Arc c q s p → Arc d q s p
  arcs_to q s p j =
      let e = x.every q j.source in
      let f = x.every p j.target in
      let from : ℕ = pair_of b.n e.0 e.1 in
      let to : ℕ = pair_of b.n f.0 f.1 in
      let i : Arc c from s to = subst (λ (u : ℕ). Arc c u s to) e.4 (subst (λ (u : ℕ). Arc c q s u) f.4 j) in
      let k : Arc d from s to =
      (y.arc e.0 e.1 s f.0 f.1 e.2 e.3 f.2 f.3).1
      ((x.arc e.0 e.1 s f.0 f.1 e.2 e.3 f.2 f.3).0 i) in
      subst (λ (u : ℕ). Arc d u s p) (sym e.4) (subst (λ (u : ℕ). Arc d from s u) (sym f.4) k)

  in_pairs : ((q : ℕ) → c.Initial q → q < c.n) → ((q : ℕ) → c.Final q → q < c.n) → Within c d
  in_pairs few-initial few-final = record {
    arcs = arcs_to;
    initials =
        marked_to c.Initial d.Initial few-initial (λ q1 q2 l t. (y.initial q1 q2 l).1 ((x.initial q1 q2 l).0 t));
    finals = marked_to c.Final d.Final few-final (λ q1 q2 l t. (y.final q1 q2 l).1 ((x.final q1 q2 l).0 t));
  }

-- ---- the states of both
own_to : (n : ℕ) (P R : ℕ → Type 0) → ((q : ℕ) → q < n → P q → R q) → ((q : ℕ) → P (n + q) → R (n + q)) → (q : ℕ) → P q → R q
own_to n P R first second q t =
    by_test (ltb q n)
    (λ e. first q (ltb-true q n e) t)
    (λ e.
    let l = ltb-false q n e in
    let is : n + (q - n) ≡ q = omega arith in
    subst R is (second (q - n) (subst P (sym is) t)))

module _ (a b c d : Automaton) (x : SideBySide a b c) (y : SideBySide a b d) where
  second_arcs : (q s p : ℕ) → Arc c (a.n + q) s p → Arc d (a.n + q) s p
  second_arcs q s =
      own_to a.n (Arc c (a.n + q) s) (Arc d (a.n + q) s)
      (λ p l j. absurd (x.none_back q s p l j))
      (λ p j. (y.arc_second q s p).1 ((x.arc_second q s p).0 j))

  beside : Within c d
  beside = record {
    arcs = λ q s p.
        own_to a.n (λ (u : ℕ). Arc c u s p) (λ (u : ℕ). Arc d u s p)
        (λ u l j. (y.arc_first u s p l).1 ((x.arc_first u s p l).0 j))
        (λ u j. second_arcs u s p j)
        q;
    initials =
        own_to a.n c.Initial d.Initial
        (λ q l t. (y.initial_first q l).1 ((x.initial_first q l).0 t))
        (λ q t. (y.initial_second q).1 ((x.initial_second q).0 t));
    finals =
        own_to a.n c.Final d.Final
        (λ q l t. (y.final_first q l).1 ((x.final_first q l).0 t))
        (λ q t. (y.final_second q).1 ((x.final_second q).0 t));
  }

-- ---- of rules
within : (way : Way) (a b : Automaton) (r m : Rule) → WellFormed r → MadeBy way a b (automaton_of r) → MadeBy way a b (automaton_of m)
    → Within (automaton_of r) (automaton_of m)
within Both a b r m good x y =
    in_pairs together a b (automaton_of r) (automaton_of m) x y
    (λ q e. members_below r.n r.initials q good.initials_below e)
    (λ q e. members_below r.n r.finals q good.finals_below e)
within Either a b r m good x y = beside a b (automaton_of r) (automaton_of m) x y
within Interleaving a b r m good x y =
    in_pairs alone a b (automaton_of r) (automaton_of m) x y
    (λ q e. members_below r.n r.initials q good.initials_below e)
    (λ q e. members_below r.n r.finals q good.finals_below e)

sizes : (way : Way) (a b c d : Automaton) → MadeBy way a b c → MadeBy way a b d → (c.n ≡ d.n) × (c.k ≡ d.k)
sizes Both a b c d x y = (x.states ∙ sym y.states, x.symbols.0 ∙ sym y.symbols.0)
sizes Either a b c d x y = (x.states ∙ sym y.states, x.symbols.0 ∙ sym y.symbols.0)
sizes Interleaving a b c d x y = (x.states ∙ sym y.states, x.symbols.0 ∙ sym y.symbols.0)

pub one_value : (way : Way) (a b : Automaton) (r m : Rule) → WellFormed r → WellFormed m → length r.targets ≡ 512
    → length m.targets ≡ 512 → MadeBy way a b (automaton_of r) → MadeBy way a b (automaton_of m) → r ≡ m
one_value way a b r m good-r good-m long-r long-m x y =
    same_value r m good-r good-m
    (sizes way a b (automaton_of r) (automaton_of m) x y)
    long-r
    long-m
    (within way a b r m good-r x y)
    (within way a b m r good-m y x)

-- The words fix every number of the rule made of the counted states: two well-formed rules that are
-- so made of the same automaton are equal. Assumes tables of 512 cells.
use mathlib.Core.Path.{◌≡◌, sym, ◌∙◌, subst}
use Prim.Native.Nat.{ℕ, ◌≤◌, ◌<◌}
use native.Mathlib.Nat.{le_antisymm}
use native.Mathlib.Omega.{arith}
use lib.Dec.{ltb}
use lib.ListN.{length}
use borrow.Author.Tests.{ltb-true, ltb-false}
use Rattle.base.proofs.Tests.{by_test}
use Rattle.masks.proofs.Laws.{members_below}
use Rattle.automaton.specs.declared.Rule.{Rule}
use Rattle.automaton.specs.Automaton.{Automaton, Arc}
use Rattle.automaton.specs.Rules.{automaton_of, WellFormed}
use Rattle.automaton.proofs.Values.{Within, same_value}
use Rattle.reducing.proofs.Rising as rising
use Rattle.reducing.proofs.Rising.{Among}
use Rattle.mergereduce.specs.Claims.{InOrder, MadeOf}

-- ---- two lists of the counted states in their order are one
module _ (a : Automaton) (c d : ℕ) (x : InOrder a c) (y : InOrder a d) where
  in_y : Among x.old c y.old d
  in_y p l = y.there (x.old p) (x.own p l)

  in-x : Among y.old d x.old c
  in-x p l = x.there (y.old p) (y.own p l)

  pub same : (p : ℕ) → p < c → (p < d) × (x.old p ≡ y.old p)
  same = rising.same x.old y.old c d x.rises y.rises in_y in-x

  pub no_more : c ≤ d
  no_more = rising.no_more x.old y.old c d x.rises y.rises in_y in-x

-- ---- and so are the rules of them
module _ (a : Automaton) (k c d : ℕ) (m n : Rule) (x : MadeOf a k c m) (y : MadeOf a k d n) (good : WellFormed m) (some_stay : 1 ≤ c) where
  within : Within (automaton_of m) (automaton_of n)
  within =
      let size = x.states some_stay in
      let is = same a c d x.order y.order in record {
        arcs = λ p s q j.
            let l : p < c = omega (arith, size, j.source) in
            let h : q < c = omega (arith, size, j.target) in
            let e = is p l in
            let f = is q h in
            (y.arc p s q e.0 f.0).1
            (subst (λ (z : ℕ). Arc a (y.order.old p) s z) f.1
            (subst (λ (z : ℕ). Arc a z s (x.order.old q)) e.1 ((x.arc p s q l h).0 j)));
        initials = λ p i.
            let l : p < c = omega (arith, size, members_below m.n m.initials p good.initials_below i) in
            let e = is p l in
            (y.initial p e.0).1 (subst a.Initial e.1 ((x.initial p l).0 i));
        finals = λ p i.
            let l : p < c = omega (arith, size, members_below m.n m.finals p good.finals_below i) in
            let e = is p l in
            (y.final p e.0).1 (subst a.Final e.1 ((x.final p l).0 i));
      }

pub one_value : (a : Automaton) (k c d : ℕ) (m n : Rule) → WellFormed m → WellFormed n → length m.targets ≡ 512 → length n.targets ≡ 512
    → MadeOf a k c m → MadeOf a k d n → m ≡ n
one_value a k c d m n gm gn lm ln x y =
    let as_many : c ≡ d = le_antisymm (no_more a c d x.order y.order) (no_more a d c y.order x.order) in
    by_test (ltb 0 c)
    (λ t.
    let h : 1 ≤ c = ltb-true 0 c t in
    let i : 1 ≤ d = omega arith in
    same_value m n gm gn (omega (arith, x.states h, y.states i), x.symbols ∙ sym y.symbols) lm ln
    (within a k c d m n x y gm h)
    (within a k d c n m y x gn i))
    (λ t.
    let z : c ≡ 0 = omega (arith, ltb-false 0 c t) in
    x.nothing z ∙ sym (y.nothing (omega arith)))

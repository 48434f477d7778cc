-- The automata of Products.antt are what the request's words say. Assumes that both automata have
-- the same number of symbols.
use mathlib.Core.Path.{◌≡◌, refl, sym, subst}
use mathlib.Core.Logic.{◌↔◌, inl, inr, ⊎_elim}
use Prim.Native.Nat.{ℕ, ◌+◌, ◌/◌, ◌%◌, ◌<◌}
use native.Mathlib.Nat.{div-add-mod'}
use native.Mathlib.Omega.{arith}
use Rattle.automaton.specs.Automaton.{Automaton}
use Rattle.products.specs.Products.{Moving, together, alone, pair_of, Moves, OfBoth, product, Own, sum}
use Rattle.products.specs.Words.{ArcMoves, InPairs, SideBySide}
use Rattle.products.proofs.Numbers.{left_of, right_of, left_below, right_below}
use Rattle.products.proofs.Pairs.{pair_in, arc_in}
use Rattle.products.proofs.Sums.{past, own_left, own_right}

-- ---- pairs
both_of : (n : ℕ) (P R : ℕ → Type 0) (x y : ℕ) → y < n → OfBoth n P R (pair_of n x y) ↔ (P x × R y)
both_of n P R x y l = (
  (λ t. (subst P (left_of n x y l) t.0, subst R (right_of n x y l) t.1)),
  λ t. (subst P (sym (left_of n x y l)) t.0, subst R (sym (right_of n x y l)) t.1),
)

module _ (a b : Automaton) (same : a.k ≡ b.k) where
  arcs_of : (way : Moving) (q1 q2 s p1 p2 : ℕ) → q1 < a.n → q2 < b.n → s < a.k → p1 < a.n → p2 < b.n
      → Moves way a b q1 q2 s p1 p2 → ArcMoves way a b q1 q2 s p1 p2
  arcs_of together q1 q2 s p1 p2 l1 l2 l m1 m2 t = (
    record { source = l1; symbol = l; target = m1; there = t.0 },
    record { source = l2; symbol = rw same at l; target = m2; there = t.1 },
  )
  arcs_of alone q1 q2 s p1 p2 l1 l2 l m1 m2 t =
      ⊎_elim
      (λ x. inl (record { source = l1; symbol = l; target = m1; there = x.0 }, x.1))
      (λ x. inr (x.0, record { source = l2; symbol = rw same at l; target = m2; there = x.1 }))
      t

  moves_of : (way : Moving) (q1 q2 s p1 p2 : ℕ) → ArcMoves way a b q1 q2 s p1 p2
      → (s < a.k) × Moves way a b q1 q2 s p1 p2
  moves_of together q1 q2 s p1 p2 t = (t.0.symbol, (t.0.there, t.1.there))
  moves_of alone q1 q2 s p1 p2 t =
      ⊎_elim
      (λ x. (x.0.symbol, inl (x.0.there, x.1)))
      (λ x. (rw same x.1.symbol, inr (x.0, x.1.there)))
      t

  pub in_pairs : (way : Moving) → InPairs way a b (product way a b)
  in_pairs way = record {
    states = refl;
    symbols = (refl, same);
    pair = pair_in a b same;
    every = λ q l. (
      q / b.n,
      q % b.n,
      left_below a.n b.n q l,
      right_below a.n b.n q l,
      sym (div-add-mod' q b.n),
    );
    initial = λ q1 q2 l. both_of b.n a.Initial b.Initial q1 q2 l;
    final = λ q1 q2 l. both_of b.n a.Final b.Final q1 q2 l;
    arc = λ q1 q2 s p1 p2 l1 l2 m1 m2. (
      (λ j.
          arcs_of way q1 q2 s p1 p2 l1 l2 j.symbol m1 m2
          (rw (left_of b.n q1 q2 l2, right_of b.n q1 q2 l2, left_of b.n p1 p2 m2, right_of b.n p1 p2 m2) at j.there)),
      λ t.
          let m = moves_of way q1 q2 s p1 p2 t in
          arc_in a b same way q1 q2 s p1 p2 l1 l2 m.0 m1 m2 m.1,
    );
  }

-- ---- the states of both
own_first : (n q : ℕ) (P R : ℕ → Type 0) → q < n → Own n P R q ↔ P q
own_first n q P R l = (own_left n q P R l, λ t. inl (l, t))

own_second : (n q : ℕ) (P R : ℕ → Type 0) → Own n P R (n + q) ↔ R q
own_second n q P R = (
  (λ t. subst R (past n q) (own_right n (n + q) P R (omega arith) t)),
  λ t. inr (omega arith, subst R (sym (past n q)) t),
)

pub side_by_side : (a b : Automaton) → a.k ≡ b.k → SideBySide a b (sum a b)
side_by_side a b same = record {
  states = refl;
  symbols = (refl, same);
  initial_first = λ q l. own_first a.n q a.Initial b.Initial l;
  initial_second = λ q. own_second a.n q a.Initial b.Initial;
  final_first = λ q l. own_first a.n q a.Final b.Final l;
  final_second = λ q. own_second a.n q a.Final b.Final;
  arc_first = λ q s p l. (
    (λ j.
        ⊎_elim
        (λ x. record { source = l; symbol = j.symbol; target = x.1.0; there = x.1.1 })
        (λ x. absurd (omega (arith, x.0)))
        j.there),
    λ j. record {
      source = omega (arith, j.source);
      symbol = j.symbol;
      target = omega (arith, j.target);
      there = inl (j.source, (j.target, j.there));
    },
  );
  arc_second = λ q s p. (
    (λ j.
        ⊎_elim
        (λ x. absurd (omega (arith, x.0)))
        (λ x. record {
          source = omega (arith, j.source);
          symbol = rw same at j.symbol;
          target = omega (arith, j.target);
          there = rw (past a.n q, past a.n p) at x.1.1;
        })
        j.there),
    λ j. record {
      source = omega (arith, j.source);
      symbol = rw same j.symbol;
      target = omega (arith, j.target);
      there = inr (omega arith, (omega arith, rw (past a.n q, past a.n p) j.there));
    },
  );
  none_back = λ q s p l j.
      ⊎_elim (λ x. omega (arith, x.0)) (λ x. omega (arith, l, x.1.0)) j.there;
}

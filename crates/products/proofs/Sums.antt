-- Runs over the states of both automata, and the texts that are accepted so. Assumes that both
-- automata have the same number of symbols.
use mathlib.Core.Path.{◌≡◌}
use mathlib.Core.Logic.{◌↔◌, ◌⊎◌, inl, inr, ⊎_elim}
use mathlib.Core.List.{List}
use Prim.Native.Nat.{ℕ, ◌+◌, ◌-◌, ◌<◌, ◌≤◌}
use native.Mathlib.Omega.{arith}
use lib.Dec.{ltb}
use borrow.Author.Tests.{ltb-true, ltb-false}
use Rattle.base.proofs.Tests.{by_test}
use Rattle.automaton.specs.Automaton.{Automaton, Arc, Run, stay, move, Accepts}
use Rattle.products.specs.Products.{Own, sum}
use Rattle.products.proofs.Pairs.{starts_below, ends_below}

pub past : (n q : ℕ) → n + q - n ≡ q
past n q = omega arith

pub own_left : (n q : ℕ) (P R : ℕ → Type 0) → q < n → Own n P R q → P q
own_left n q P R l o = ⊎_elim (λ x. x.1) (λ x. absurd (omega (arith, x.0))) o

pub own_right : (n q : ℕ) (P R : ℕ → Type 0) → n ≤ q → Own n P R q → R (q - n)
own_right n q P R l o = ⊎_elim (λ x. absurd (omega (arith, x.0))) (λ x. x.1) o

module _ (a b : Automaton) (same : a.k ≡ b.k) where
  in_left : {q p : ℕ} {w : List ℕ} → Run a q w p → Run (sum a b) q w p
  in_left (stay {q} l) = let f : q < a.n + b.n = omega arith in stay f
  in_left (move {q} {s} {r} j t) =
      let x : Arc (sum a b) q s r = record {
        source = omega (arith, j.source);
        symbol = j.symbol;
        target = omega (arith, j.target);
        there = inl (j.source, (j.target, j.there));
      } in
      move x (in_left t)

  in_right : {q p : ℕ} {w : List ℕ} → Run b q w p → Run (sum a b) (a.n + q) w (a.n + p)
  in_right (stay {q} l) = let f : a.n + q < a.n + b.n = omega arith in stay f
  in_right (move {q} {s} {r} j t) =
      let x : Arc (sum a b) (a.n + q) s (a.n + r) = record {
        source = omega (arith, j.source);
        symbol = rw same j.symbol;
        target = omega (arith, j.target);
        there = inr (omega arith, (omega arith, rw (past a.n q, past a.n r) j.there));
      } in
      move x (in_right t)

  -- a run stays in the automaton in which it starts
  of_sum : {q p : ℕ} {w : List ℕ} → Run (sum a b) q w p
      → ((q < a.n) × (p < a.n) × Run a q w p) ⊎ ((a.n ≤ q) × (a.n ≤ p) × Run b (q - a.n) w (p - a.n))
  of_sum (stay {q} l) =
      by_test (ltb q a.n)
      (λ e. let f = ltb-true q a.n e in inl (f, f, stay f))
      (λ e. let f = ltb-false q a.n e in inr (f, f, stay (omega arith)))
  of_sum (move {q} {s} {r} {p} j t) =
      ⊎_elim
      (λ x.
      ⊎_elim
      (λ y. inl (x.0, y.1, move (record { source = x.0; symbol = j.symbol; target = x.1.0; there = x.1.1 }) y.2))
      (λ y. absurd (omega (arith, x.1.0, y.0)))
      (of_sum t))
      (λ x.
      ⊎_elim
      (λ y. absurd (omega (arith, x.1.0, y.0)))
      (λ y.
      inr (
        x.0,
        y.1,
        move
            (record { source = omega (arith, x.0, j.source); symbol = rw same at j.symbol; target = starts_below y.2; there = x.1.1 })
            y.2,
      ))
      (of_sum t))
      j.there

  pub either_law : (w : List ℕ) → Accepts (sum a b) w ↔ (Accepts a w ⊎ Accepts b w)
  either_law w = (
    (λ t.
        ⊎_elim
        (λ x. inl (record {
          from = t.from;
          to = t.to;
          begins = own_left a.n t.from a.Initial b.Initial x.0 t.begins;
          ends = own_left a.n t.to a.Final b.Final x.1 t.ends;
          run = x.2;
        }))
        (λ x. inr (record {
          from = t.from - a.n;
          to = t.to - a.n;
          begins = own_right a.n t.from a.Initial b.Initial x.0 t.begins;
          ends = own_right a.n t.to a.Final b.Final x.1 t.ends;
          run = x.2;
        }))
        (of_sum t.run)),
    λ t.
        ⊎_elim
        (λ x. record {
          from = x.from;
          to = x.to;
          begins = inl (starts_below x.run, x.begins);
          ends = inl (ends_below x.run, x.ends);
          run = in_left x.run;
        })
        (λ x. record {
          from = a.n + x.from;
          to = a.n + x.to;
          begins = inr (omega arith, rw (past a.n x.from) x.begins);
          ends = inr (omega arith, rw (past a.n x.to) x.ends);
          run = in_right x.run;
        })
        t,
  )

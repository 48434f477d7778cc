-- Runs over pairs, for both ways of moving, and the texts that pairs accept. Assumes that both
-- automata have the same number of symbols.
--
-- The route: a run over pairs is taken apart step by step (`two_of`), and two runs are put together
-- along their texts (`joined_run`). What a step does is the one place that asks which way a pair
-- moves (`stepped`, and the two cases of `joined_run`); `texts_law` asks no more.
use mathlib.Core.Path.{◌≡◌, refl, subst}
use mathlib.Core.Logic.{◌↔◌, inl, inr, ⊎_elim}
use mathlib.Core.List.{List, [], ◌∷◌}
use Prim.Native.Nat.{ℕ, ◌*◌, ◌/◌, ◌%◌, ◌<◌}
use Rattle.automaton.specs.Automaton.{Automaton, Arc, Run, stay, move, Accepts}
use Rattle.products.specs.Interleavings.{Interleaving, ended, first, second}
use Rattle.products.specs.Products.{Moving, together, alone, pair_of, Moves, product}
use Rattle.products.specs.Claims.{Woven, TwoRuns, TwoTexts, Interleaved}
use Rattle.products.proofs.Numbers.{left_of, right_of, left_below, right_below, pair_below}

-- ---- a run starts and ends in states
pub starts_below : {a : Automaton} {q p : ℕ} {w : List ℕ} → Run a q w p → q < a.n
starts_below (stay l) = l
starts_below (move j u) = j.source

pub ends_below : {a : Automaton} {q p : ℕ} {w : List ℕ} → Run a q w p → p < a.n
ends_below (stay l) = l
ends_below (move j u) = ends_below u

module _ (a b : Automaton) (same : a.k ≡ b.k) where
  -- ---- a run over pairs taken apart
  -- one step in front of two runs
  stepped : (way : Moving) (q1 q2 s r1 r2 p1 p2 : ℕ) (w : List ℕ) → q1 < a.n → q2 < b.n → s < a.k → Moves way a b q1 q2 s r1 r2
      → TwoRuns way a b r1 r2 w p1 p2 → TwoRuns way a b q1 q2 (s ∷ w) p1 p2
  stepped together q1 q2 s r1 r2 p1 p2 w l1 l2 l m t =
      let left = subst (λ (x : List ℕ). Run a r1 x p1) t.woven.0 t.first in
      let right = subst (λ (x : List ℕ). Run b r2 x p2) t.woven.1 t.second in
      record {
        u = s ∷ w;
        v = s ∷ w;
        woven = (refl, refl);
        first = move (record { source = l1; symbol = l; target = starts_below left; there = m.0 }) left;
        second = move (record { source = l2; symbol = rw same at l; target = starts_below right; there = m.1 }) right;
      }
  stepped alone q1 q2 s r1 r2 p1 p2 w l1 l2 l m t =
      ⊎_elim
      (λ x. record {
        u = s ∷ t.u;
        v = t.v;
        woven = first t.woven;
        first = move (record { source = l1; symbol = l; target = starts_below t.first; there = x.0 }) t.first;
        second = subst (λ (y : ℕ). Run b y t.v p2) x.1 t.second;
      })
      (λ x. record {
        u = t.u;
        v = s ∷ t.v;
        woven = second t.woven;
        first = subst (λ (y : ℕ). Run a y t.u p1) x.0 t.first;
        second = move (record { source = l2; symbol = rw same at l; target = starts_below t.second; there = x.1 }) t.second;
      })
      m

  ended_both : (way : Moving) → Woven way [] [] []
  ended_both together = (refl, refl)
  ended_both alone = ended

  two_of : (way : Moving) {q p : ℕ} {w : List ℕ} → Run (product way a b) q w p
      → TwoRuns way a b (q / b.n) (q % b.n) w (p / b.n) (p % b.n)
  two_of way (stay {q} l) = record {
    u = [];
    v = [];
    woven = ended_both way;
    first = stay (left_below a.n b.n q l);
    second = stay (right_below a.n b.n q l);
  }
  two_of way (move {q} {s} {r} {p} {w} j t) =
      stepped way (q / b.n) (q % b.n) s (r / b.n) (r % b.n) (p / b.n) (p % b.n) w
      (left_below a.n b.n q j.source)
      (right_below a.n b.n q j.source)
      j.symbol
      j.there
      (two_of way t)

  -- ---- two runs put together
  pub pair_in : (x y : ℕ) → x < a.n → y < b.n → pair_of b.n x y < a.n * b.n
  pair_in x y l1 l2 =
      pair_below a.n b.n (pair_of b.n x y)
      (rw (left_of b.n x y l2) l1)
      (rw (right_of b.n x y l2) l2)

  pub arc_in : (way : Moving) (q1 q2 s r1 r2 : ℕ) → q1 < a.n → q2 < b.n → s < a.k → r1 < a.n → r2 < b.n → Moves way a b q1 q2 s r1 r2
      → Arc (product way a b) (pair_of b.n q1 q2) s (pair_of b.n r1 r2)
  arc_in way q1 q2 s r1 r2 l1 l2 l m1 m2 m = record {
    source = pair_in q1 q2 l1 l2;
    symbol = l;
    target = pair_in r1 r2 m1 m2;
    there = rw (left_of b.n q1 q2 l2, right_of b.n q1 q2 l2, left_of b.n r1 r2 m2, right_of b.n r1 r2 m2) m;
  }

  together_run : {w : List ℕ} {q1 q2 p1 p2 : ℕ} → Run a q1 w p1 → Run b q2 w p2
      → Run (product together a b) (pair_of b.n q1 q2) w (pair_of b.n p1 p2)
  together_run (stay {q} l) (stay {q = p} m) = stay (pair_in q p l m)
  together_run (move {q} {s} {r} j t) (move {q = q2} {r = r2} i y) =
      move (arc_in together q q2 s r r2 j.source i.source j.symbol j.target i.target (j.there, i.there)) (together_run t y)

  alone_run : {u v w : List ℕ} {q1 q2 p1 p2 : ℕ} → Interleaving u v w → Run a q1 u p1 → Run b q2 v p2
      → Run (product alone a b) (pair_of b.n q1 q2) w (pair_of b.n p1 p2)
  alone_run ended (stay {q} l) (stay {q = p} m) = stay (pair_in q p l m)
  alone_run (first {s} w) (move {q} {r} j t) y =
      let e = starts_below y in
      move (arc_in alone q _ s r _ j.source e j.symbol j.target e (inl (j.there, refl))) (alone_run w t y)
  alone_run (second {s} w) t (move {q} {r} i y) =
      let e = starts_below t in
      let l : s < a.k = rw same i.symbol in
      move (arc_in alone _ q s _ r e i.source l e i.target (inr (refl, i.there))) (alone_run w t y)

  joined_run : (way : Moving) {u v w : List ℕ} {q1 q2 p1 p2 : ℕ} → Woven way u v w → Run a q1 u p1 → Run b q2 v p2
      → Run (product way a b) (pair_of b.n q1 q2) w (pair_of b.n p1 p2)
  joined_run together {q1} {q2} {p1} {p2} e t y =
      together_run (subst (λ (x : List ℕ). Run a q1 x p1) e.0 t) (subst (λ (x : List ℕ). Run b q2 x p2) e.1 y)
  joined_run alone e t y = alone_run e t y

  -- ---- the laws
  pub runs_law : (way : Moving) (q1 q2 p1 p2 : ℕ) (w : List ℕ) → q2 < b.n → p2 < b.n
      → Run (product way a b) (pair_of b.n q1 q2) w (pair_of b.n p1 p2) ↔ TwoRuns way a b q1 q2 w p1 p2
  runs_law way q1 q2 p1 p2 w l m = (
    (λ t. rw (left_of b.n q1 q2 l, right_of b.n q1 q2 l, left_of b.n p1 p2 m, right_of b.n p1 p2 m) at (two_of way t)),
    λ t. joined_run way t.woven t.first t.second,
  )

  pub texts_law : (way : Moving) (w : List ℕ) → Accepts (product way a b) w ↔ TwoTexts way a b w
  texts_law way w = (
    (λ t. let r = two_of way t.run in record {
      u = r.u;
      v = r.v;
      woven = r.woven;
      first = record { from = t.from / b.n; to = t.to / b.n; begins = t.begins.0; ends = t.ends.0; run = r.first };
      second = record { from = t.from % b.n; to = t.to % b.n; begins = t.begins.1; ends = t.ends.1; run = r.second };
    }),
    λ t.
        let x = t.first in
        let y = t.second in
        let l = starts_below y.run in
        let m = ends_below y.run in
        record {
          from = pair_of b.n x.from y.from;
          to = pair_of b.n x.to y.to;
          begins = (rw (left_of b.n x.from y.from l) x.begins, rw (right_of b.n x.from y.from l) y.begins);
          ends = (rw (left_of b.n x.to y.to m) x.ends, rw (right_of b.n x.to y.to m) y.ends);
          run = joined_run way t.woven x.run y.run;
        },
  )

  pub both_law : (w : List ℕ) → Accepts (product together a b) w ↔ (Accepts a w × Accepts b w)
  both_law w = (
    (λ t.
        let p = (texts_law together w).0 t in
        (subst (λ (x : List ℕ). Accepts a x) p.woven.0 p.first, subst (λ (x : List ℕ). Accepts b x) p.woven.1 p.second)),
    λ t. (texts_law together w).1 (record { u = w; v = w; woven = (refl, refl); first = t.0; second = t.1 }),
  )

  pub interleaving_law : (w : List ℕ) → Accepts (product alone a b) w ↔ Interleaved a b w
  interleaving_law w = (
    (λ t. let p = (texts_law alone w).0 t in record { u = p.u; v = p.v; first = p.first; second = p.second; interleaves = p.woven }),
    λ t. (texts_law alone w).1 (record { u = t.u; v = t.v; woven = t.interleaves; first = t.first; second = t.second }),
  )

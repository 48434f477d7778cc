-- Alike states made one, on automata: b has a state g x for each state x of a that stays, and each
-- arc of a from such a state leads to the one that stands for where it led (D q (some x): x stands
-- for q). Each state g x accepts what x does, so b accepts what a does. Assumes nothing.
use mathlib.Core.Path.{◌≡◌, refl, sym, subst}
use mathlib.Core.Logic.{◌↔◌}
use mathlib.Core.List.{List, [], ◌∷◌, ◌++◌}
use mathlib.Core.Option.{Option, some}
use Prim.Native.Nat.{ℕ, ◌<◌}
use Rattle.automaton.specs.Automaton.{Automaton, Arc, Text, Run, stay, move, Accepts}
use Rattle.delegates.specs.Alike.{AcceptsFrom, Alike, Live}
use Rattle.delegates.proofs.Alike.{run_text}

-- ---- runs
run_none : (a : Automaton) {q p : ℕ} → Run a q [] p → q ≡ p
run_none a (stay l) = refl

record Begun (a : Automaton) (q s : ℕ) (w : List ℕ) (p : ℕ) : Type 0 where
  next : ℕ
  arc : Arc a q s next
  run : Run a next w p

run_first : (a : Automaton) {q s p : ℕ} {w : List ℕ} → Run a q (s ∷ w) p → Begun a q s w p
run_first a (move {q} {s} {r} j u) = record { next = r; arc = j; run = u }

pub run_join : (a : Automaton) {q p t : ℕ} {v w : List ℕ} → Run a q v p → Run a p w t → Run a q (v ++ w) t
run_join a (stay l) u = u
run_join a (move i x) u = move i (run_join a x u)

pub run_state : (a : Automaton) {q p : ℕ} {w : List ℕ} → Run a q w p → q < a.n
run_state a (stay l) = l
run_state a (move j u) = j.source

pub record Step (D : ℕ → Option ℕ → Type 0) (Kept : ℕ → Type 0) (g : ℕ → ℕ) (From : ℕ → Type 0) (p : ℕ) : Type 0 where
  pub through : ℕ
  pub to : ℕ
  pub from : From through
  pub chosen : D through (some to)
  pub kept : Kept to
  pub is : p ≡ g to

pub record Quotient (a b : Automaton) (D : ℕ → Option ℕ → Type 0) (Kept : ℕ → Type 0) (g : ℕ → ℕ) : Type 0 where
  pub symbols : b.k ≡ a.k
  pub states : (x : ℕ) → Kept x → g x < b.n
  pub state : (x : ℕ) → Kept x → x < a.n
  pub alike : (q x : ℕ) → D q (some x) → Alike a q x
  pub arc_to_lem : (x s t y : ℕ) → Kept x → Arc a x s t → D t (some y) → Kept y × Arc b (g x) s (g y)
  pub arc_from : (x s p : ℕ) → Kept x → Arc b (g x) s p → Step D Kept g (λ t. Arc a x s t) p
  pub arc_live : (x s t : ℕ) → Kept x → Arc a x s t → Live a t → (y : ℕ) × D t (some y)
  pub initial_to : (q x : ℕ) → a.Initial q → D q (some x) → Kept x × b.Initial (g x)
  pub initial_from : (p : ℕ) → b.Initial p → Step D Kept g a.Initial p
  pub initial_live : (q : ℕ) → a.Initial q → Live a q → (x : ℕ) × D q (some x)
  pub final_to : (x : ℕ) → Kept x → a.Final x → b.Final (g x)
  pub final_from : (x : ℕ) → Kept x → b.Final (g x) → a.Final x

module _ (a b : Automaton) (D : ℕ → Option ℕ → Type 0) (Kept : ℕ → Type 0) (g : ℕ → ℕ) (Q : Quotient a b D Kept g) where
  lives : (q : ℕ) (w : List ℕ) → AcceptsFrom a q w → Live a q
  lives q w t = record { text = w; accepts = t }

  moved : (q x : ℕ) (w : List ℕ) → D q (some x) → AcceptsFrom a q w → AcceptsFrom a x w
  moved q x w d t = (Q.alike q x d w (run_text a t.run)).0 t

  back : (q x : ℕ) (w : List ℕ) → D q (some x) → AcceptsFrom a x w → AcceptsFrom a q w
  back q x w d t = (Q.alike q x d w (run_text a t.run)).1 t

  pub to_new : (w : List ℕ) (x : ℕ) → Kept x → AcceptsFrom a x w → AcceptsFrom b (g x) w
  to_new [] x k t = record {
    to = g x;
    ends = Q.final_to x k (subst a.Final (sym (run_none a t.run)) t.ends);
    run = stay (Q.states x k);
  }
  to_new (s ∷ w) x k t =
      let u = run_first a t.run in
      let rest : AcceptsFrom a u.next w = record { to = t.to; ends = t.ends; run = u.run } in
      let e = Q.arc_live x s u.next k u.arc (lives u.next w rest) in
      let j = Q.arc_to_lem x s u.next e.0 k u.arc e.1 in
      let on = to_new w e.0 j.0 (moved u.next e.0 w e.1 rest) in
      record { to = on.to; ends = on.ends; run = move j.1 on.run }

  pub to_old : (w : List ℕ) (x : ℕ) → Kept x → AcceptsFrom b (g x) w → AcceptsFrom a x w
  to_old [] x k t =
      let f : a.Final x = Q.final_from x k (subst b.Final (sym (run_none b t.run)) t.ends) in
      record { to = x; ends = f; run = stay (Q.state x k) }
  to_old (s ∷ w) x k t =
      let u = run_first b t.run in
      let rest : AcceptsFrom b u.next w = record { to = t.to; ends = t.ends; run = u.run } in
      let e = Q.arc_from x s u.next k u.arc in
      let on = to_old w e.to e.kept (subst (λ (y : ℕ). AcceptsFrom b y w) e.is rest) in
      let last = back e.through e.to w e.chosen on in
      record { to = last.to; ends = last.ends; run = move e.from last.run }

  -- ---- the same texts
  -- an initial state from which a text is accepted has one that stands for it
  pub begins : (w : List ℕ) → Accepts a w → (x : ℕ) × Kept x × b.Initial (g x) × AcceptsFrom a x w
  begins w t =
      let from : AcceptsFrom a t.from w = record { to = t.to; ends = t.ends; run = t.run } in
      let e = Q.initial_live t.from t.begins (lives t.from w from) in
      let i = Q.initial_to t.from e.0 t.begins e.1 in
      (e.0, i.0, i.1, moved t.from e.0 w e.1 from)

  pub language : (w : List ℕ) → Accepts b w ↔ Accepts a w
  language w = (
    (λ t.
        let e = Q.initial_from t.from t.begins in
        let from : AcceptsFrom b t.from w = record { to = t.to; ends = t.ends; run = t.run } in
        let on = to_old w e.to e.kept (subst (λ (y : ℕ). AcceptsFrom b y w) e.is from) in
        let last = back e.through e.to w e.chosen on in
        record { from = e.through; to = last.to; begins = e.from; ends = last.ends; run = last.run }),
    λ t.
        let i = begins w t in
        let on = to_new w i.0 i.1 i.3 in
        record { from = g i.0; to = on.to; begins = i.2; ends = on.ends; run = on.run },
  )

  -- ---- live, and alike
  pub live : (x : ℕ) → Kept x → Live a x → Live b (g x)
  live x k l = record { text = l.text; accepts = to_new l.text x k l.accepts }

  pub alike_old : (x y : ℕ) → Kept x → Kept y → Alike b (g x) (g y) → Alike a x y
  alike_old x y k l h w t =
      let u : Text b.k w = subst (λ (c : ℕ). Text c w) (sym Q.symbols) t in (
        (λ z. to_old w y l ((h w u).0 (to_new w x k z))),
        λ z. to_old w x k ((h w u).1 (to_new w y l z)),
      )

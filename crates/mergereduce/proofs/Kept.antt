-- The states that are kept of an automaton given by masks are those that are reached and live.
-- Assumes that the masks are the automaton's.
use mathlib.Core.Path.{◌≡◌, refl, subst}
use mathlib.Core.Logic.{◌↔◌, ⊎_elim}
use mathlib.Core.Bool.{Bool, true, false, ◌&&◌}
use mathlib.Core.List.{List, [], ◌∷◌, ◌++◌}
use Prim.Native.Nat.{ℕ, zero, suc, ◌≤◌, ◌<◌}
use native.Mathlib.Omega.{arith}
use Rattle.base.specs.Conditions.{any_below}
use Rattle.base.proofs.Conditions.{any_at, any_found}
use Rattle.base.proofs.Tests.{not_both}
use Rattle.masks.specs.Masks.{◌∈◌, has, mask_of}
use Rattle.masks.proofs.Laws.{has_member, member_of, or_cases, or_left, or_right, and_members}
use Rattle.masks.proofs.Passing.{mask_in, mask_of_lem}
use Rattle.masks.specs.Turns.{turns}
use Rattle.masks.proofs.Turns.{in_turns, still}
use Rattle.automaton.specs.Automaton.{Automaton, Arc, Run, stay, move}
use Rattle.automaton.specs.Successor.{Reached}
use Rattle.delegates.specs.Alike.{Live}
use Rattle.reducing.proofs.Quotient.{run_join, run_state}
use Rattle.reducing.proofs.Chosen.{run_end}
use Rattle.mergereduce.specs.Trimmed.{arcs, onward, back_to, kept_from}
use Rattle.mergereduce.specs.Claims.{Counted}

pub and_both : (a b : Bool) → (a && b) ≡ true → (a ≡ true) × (b ≡ true)
and_both true true e = (refl, refl)
and_both true false e = not_both {b = false} e refl
and_both false b e = not_both {b = false} e refl

-- ---- one step
abbrev pub added : (ℕ → ℕ → Bool) → ℕ → ℕ → ℕ
added link n m = mask_of (λ p. any_below (λ q. has m q && link q p) n) n

module _ (link : ℕ → ℕ → Bool) (n m : ℕ) where
  pub spread_from : (p : ℕ) → p ∈ added link n m → (q : ℕ) × (q < n) × (q ∈ m) × (link q p ≡ true) × (p < n)
  spread_from p e =
      let x = mask_in (λ r. any_below (λ q. has m q && link q r) n) n p e in
      let y = any_found (λ q. has m q && link q p) n x.1 in
      let z = and_both (has m y.0) (link y.0 p) y.2 in
      (y.0, y.1, member_of m y.0 z.0, z.1, x.0)

  pub spread_to : (q p : ℕ) → q < n → p < n → q ∈ m → link q p ≡ true → p ∈ added link n m
  spread_to q p l h e t =
      mask_of_lem (λ r. any_below (λ x. has m x && link x r) n) n p h
      (any_at (λ x. has m x && link x p) n q l (rw (has_member m q e, t)))

-- the automaton a has n states, the initial and final states of the two masks, and the targets ts
pub record Masked (a : Automaton) (n initials finals : ℕ) (ts : ℕ → ℕ → ℕ) : Type 0 where
  pub states : a.n ≡ n
  pub symbols : a.k ≤ 16
  pub initial : (q : ℕ) → q ∈ initials ↔ a.Initial q
  pub final : (q : ℕ) → q ∈ finals ↔ a.Final q
  pub initial_below : (q : ℕ) → q ∈ initials → q < n
  pub final_below : (q : ℕ) → q ∈ finals → q < n
  pub arc : (q s p : ℕ) → q < n → p ∈ ts q s ↔ Arc a q s p

module _ (a : Automaton) (n initials finals : ℕ) (ts : ℕ → ℕ → ℕ) (M : Masked a n initials finals ts) where
  below : (q : ℕ) → q < a.n → q < n
  below q l = rw M.states at l

  low : (s : ℕ) → s < a.k → s < 16
  low s l = omega (arith, M.symbols)

  -- ---- the states that are reached
  abbrev fore : ℕ → ℕ
  fore i = turns (onward n ts) initials i

  pub reach_in : (i x : ℕ) → x ∈ fore i → (w : List ℕ) × Reached a initials w x
  unfolding turns
  reach_in zero x e =
      let l : x < a.n = rw M.states (M.initial_below x e) in
      ([], record { from = x; member = e; run = stay l })
  reach_in (suc i) x e =
      ⊎_elim
      (λ h. reach_in i x h)
      (λ h.
      let u = spread_from (arcs n ts) n (fore i) x h in
      let v = any_found (λ s. has (ts u.0 s) x) 16 u.3 in
      let j : Arc a u.0 v.0 x = (M.arc u.0 v.0 x u.1).0 (member_of (ts u.0 v.0) x v.2) in
      let before = reach_in i u.0 u.2 in (
        before.0 ++ (v.0 ∷ []),
        record {
          from = before.1.from;
          member = before.1.member;
          run = run_join a before.1.run (move j (stay j.target));
        },
      ))
      (or_cases (fore i) (added (arcs n ts) n (fore i)) x e)

  abbrev reached : ℕ
  reached = fore n

  fore_few : (i q : ℕ) → q ∈ fore i → q < n
  fore_few i q e = below q (run_end a (reach_in i q e).1.run)

  fore_adds : (x q : ℕ) → q ∈ x → q ∈ onward n ts x
  fore_adds x q e = or_left x (added (arcs n ts) n x) q e

  pub onward_reached : (x s t : ℕ) → x ∈ reached → Arc a x s t → t ∈ reached
  onward_reached x s t e j =
      let l : x < n = below x j.source in
      let m : t < n = below t j.target in
      let one = any_at (λ z. has (ts x z) t) 16 s (low s j.symbol) (has_member (ts x s) t ((M.arc x s t l).1 j)) in
      subst (λ (y : ℕ). t ∈ y) (still (onward n ts) initials fore_adds n fore_few)
      (or_right reached (added (arcs n ts) n reached) t (spread_to (arcs n ts) n reached x t l m e one))

  pub first_reached : (q : ℕ) → q ∈ initials → q ∈ reached
  first_reached q e = in_turns (onward n ts) initials fore_adds q e n

  -- ---- the states that are live
  abbrev back : ℕ → ℕ
  back i = turns (back_to n ts) finals i

  pub live_in : (i q : ℕ) → q ∈ back i → Live a q
  unfolding turns
  live_in zero q e =
      let l : q < a.n = rw M.states (M.final_below q e) in
      record { text = []; accepts = record { to = q; ends = (M.final q).0 e; run = stay l } }
  live_in (suc i) q e =
      ⊎_elim
      (λ h. live_in i q h)
      (λ h.
      let x = spread_from (λ p r. arcs n ts r p) n (back i) q h in
      let y = any_found (λ s. has (ts q s) x.0) 16 x.3 in
      let on = live_in i x.0 x.2 in
      record {
        text = y.0 ∷ on.text;
        accepts = record {
          to = on.accepts.to;
          ends = on.accepts.ends;
          run = move ((M.arc q y.0 x.0 x.4).0 (member_of (ts q y.0) x.0 y.2)) on.accepts.run;
        };
      })
      (or_cases (back i) (added (λ p r. arcs n ts r p) n (back i)) q e)

  abbrev live : ℕ
  live = back n

  back_few : (i q : ℕ) → q ∈ back i → q < n
  back_few i q e = below q (run_state a (live_in i q e).accepts.run)

  back_adds : (x q : ℕ) → q ∈ x → q ∈ back_to n ts x
  back_adds x q e = or_left x (added (λ p r. arcs n ts r p) n x) q e

  back_live : (q s t : ℕ) → Arc a q s t → t ∈ live → q ∈ live
  back_live q s t j e =
      let l : q < n = below q j.source in
      let m : t < n = below t j.target in
      let there = any_at (λ z. has (ts q z) t) 16 s (low s j.symbol) (has_member (ts q s) t ((M.arc q s t l).1 j)) in
      subst (λ (y : ℕ). q ∈ y) (still (back_to n ts) finals back_adds n back_few)
      (or_right live (added (λ p r. arcs n ts r p) n live) q (spread_to (λ p r. arcs n ts r p) n live t q m l e there))

  run_live : {q p : ℕ} {w : List ℕ} → p ∈ live → Run a q w p → q ∈ live
  run_live e (stay l) = e
  run_live e (move {q = q} {s = s} {r = t} j u) = back_live q s t j (run_live e u)

  pub live_there : (q : ℕ) → Live a q → q ∈ live
  live_there q l =
      run_live (in_turns (back_to n ts) finals back_adds l.accepts.to ((M.final l.accepts.to).1 l.accepts.ends) n) l.accepts.run

  -- ---- both
  abbrev kept : ℕ
  kept = kept_from n ts initials finals

  pub kept_both : (q : ℕ) → q ∈ kept ↔ (q ∈ reached) × (q ∈ live)
  unfolding kept_from
  kept_both q = and_members reached live q

  pub kept_few : (q : ℕ) → q ∈ kept → q < n
  kept_few q e = fore_few n q ((kept_both q).0 e).0

  pub kept_live : (q : ℕ) → q ∈ reached → Live a q → q ∈ kept
  kept_live q e l = (kept_both q).1 (e, live_there q l)

  -- what is reached from a state that is
  run_reached : {q p : ℕ} {w : List ℕ} → q ∈ reached → Run a q w p → p ∈ reached
  run_reached e (stay l) = e
  run_reached e (move {q = q} {s = s} {r = t} j u) = run_reached (onward_reached q s t e j) u

  pub kept_law : (p : ℕ) → p ∈ kept ↔ Counted a p
  kept_law p = (
    (λ e.
        let both = (kept_both p).0 e in
        let there = reach_in n p both.0 in
        record {
          from = there.1.from;
          initial = (M.initial there.1.from).0 there.1.member;
          text = there.0;
          run = there.1.run;
          live = live_in n p both.1;
        }),
    λ c. kept_live p (run_reached (first_reached c.from ((M.initial c.from).1 c.initial)) c.run) c.live,
  )

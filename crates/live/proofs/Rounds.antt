-- The mask of live states has those from which a final state can be reached. A round backwards that
-- adds nothing is the last that is needed, and there are at most 32 that add one. Assumes a
-- well-formed rule.
--
--   live_of, in_live     a state of the mask is live, and each live one is in it
--   live_law             both
use mathlib.Core.Path.{◌≡◌, ap, ◌∙◌, subst}
use mathlib.Core.Logic.{◌↔◌, ⊎_elim}
use mathlib.Core.List.{List, [], ◌∷◌}
use Prim.Native.Nat.{ℕ, zero, suc, ◌+◌, ◌-◌, ◌<◌}
use native.Mathlib.Omega.{arith}
use lib.Dec.{ltb}
use lib.ListN.{length}
use borrow.Author.Tests.{ltb-true, ltb-false}
use Rattle.base.proofs.Tests.{by_test}
use Rattle.base.proofs.Conditions.{any_at, any_found}
use Rattle.masks.specs.Masks.{◌∈◌, shares, mask_of}
use Rattle.masks.specs.Turns.{turns}
use Rattle.masks.proofs.Laws.{or_cases, or_left, or_right, members_below, shares_law}
use Rattle.masks.proofs.Turns.{turns_still, grows_by, still}
use Rattle.automaton.specs.declared.Rule.{Rule}
use Rattle.automaton.specs.Automaton.{Run, stay, move}
use Rattle.automaton.specs.Rules.{target_mask, automaton_of, WellFormed}
use Rattle.automaton.proofs.Laws.{arc_of}
use Rattle.delegates.specs.Alike.{Live}
use Rattle.masks.proofs.Passing.{mask_in, mask_of_lem}
use Rattle.live.specs.Live.{leads, back_to, within, live_of}

module _ (r : Rule) (good : WellFormed r) where
  -- ---- a state of the mask is live
  pub live_in : (i q : ℕ) → q ∈ within r.targets r.finals i → Live (automaton_of r) q
  unfolding turns
  live_in zero q e = record {
    text = [];
    accepts = record { to = q; ends = e; run = stay (members_below r.n r.finals q good.finals_below e) };
  }
  live_in (suc i) q e =
      ⊎_elim
      (λ l. live_in i q l)
      (λ h.
      let x = mask_in (leads r.targets (within r.targets r.finals i)) 32 q h in
      let y = any_found (λ s. shares (target_mask r.targets q s) (within r.targets r.finals i)) 16 x.1 in
      let z = (shares_law (target_mask r.targets q y.0) (within r.targets r.finals i)).0 y.2 in
      let on = live_in i z.0 z.2 in
      record {
        text = y.0 ∷ on.text;
        accepts = record {
          to = on.accepts.to;
          ends = on.accepts.ends;
          run = move (arc_of r good q y.0 z.0 x.0 z.1) on.accepts.run;
        };
      })
      (or_cases (within r.targets r.finals i) (mask_of (leads r.targets (within r.targets r.finals i)) 32) q e)

  pub run_state : {q p : ℕ} {w : List ℕ} → Run (automaton_of r) q w p → q < r.n
  run_state (stay l) = l
  run_state (move j u) = j.source

  in_states : (i q : ℕ) → q ∈ within r.targets r.finals i → q < 32
  in_states i q e = omega (arith, run_state (live_in i q e).accepts.run, good.states)

  adds : (m q : ℕ) → q ∈ m → q ∈ back_to r.targets m
  adds m q e = or_left m (mask_of (leads r.targets m) 32) q e

  -- ---- a run of as many arcs as rounds is found
  in_within : {q p : ℕ} {w : List ℕ} → p ∈ r.finals → Run (automaton_of r) q w p → q ∈ within r.targets r.finals (length w)
  unfolding turns
  in_within e (stay l) = e
  in_within e (move {q = q} {s = s} {r = t} {w = w} j u) =
      let m = within r.targets r.finals (length w) in
      let there = (shares_law (target_mask r.targets q s) m).1 (t, j.there, in_within e u) in
      or_right m (mask_of (leads r.targets m) 32) q
      (mask_of_lem (leads r.targets m) 32 q (omega (arith, j.source, good.states))
      (any_at (λ x. shares (target_mask r.targets q x) m) 16 s (omega (arith, j.symbol, good.symbols)) there))

  -- ---- 32 rounds are enough
  enough : (i q : ℕ) → q ∈ within r.targets r.finals i → q ∈ live_of r
  unfolding turns
  enough i q e =
      by_test (ltb i 32)
      (λ t.
      let z : 32 - i + i ≡ 32 = omega (arith, ltb-true i 32 t) in
      subst (λ (x : ℕ). q ∈ within r.targets r.finals x) z (grows_by (back_to r.targets) r.finals adds (32 - i) i q e))
      (λ f.
      let z : i ≡ (i - 32) + 32 = omega (arith, ltb-false i 32 f) in
      subst (λ (x : ℕ). q ∈ x) (ap (within r.targets r.finals) z ∙ turns_still (back_to r.targets) r.finals 32 (i - 32) (still (back_to r.targets) r.finals adds 32 in_states)) e)

  pub live_law : (q : ℕ) → q ∈ live_of r ↔ Live (automaton_of r) q
  live_law q = (live_in 32 q, λ l. enough (length l.text) q (in_within l.accepts.ends l.accepts.run))

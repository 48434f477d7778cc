-- A lean rule is its own reduced rule: every state is its own delegate and stays, so each keeps its
-- number. Assumes a well-formed rule with a table of 512 cells, and a list of what stands for its
-- states.
use mathlib.Core.Path.{◌≡◌, refl, sym, ap, ◌∙◌, subst}
use mathlib.Core.List.{List}
use mathlib.Core.Option.{Option, some}
use Prim.Native.Nat.{ℕ, zero, suc, ◌+◌, ◌-◌, ◌≤◌, ◌<◌}
use native.Mathlib.Omega.{arith}
use lib.ListN.{length}
use Rattle.base.specs.Totals.{total}
use Rattle.base.proofs.Totals.{total_rest}
use Rattle.base.proofs.Lists.{length_list_from}
use Rattle.masks.specs.Masks.{bit, ◌∈◌}
use Rattle.masks.proofs.Laws.{members_below}
use Rattle.masks.specs.Turns.{rank}
use Rattle.automaton.specs.declared.Rule.{Rule}
use Rattle.automaton.specs.Automaton.{Automaton, Arc, Run, stay, move}
use Rattle.automaton.specs.Rules.{automaton_of, WellFormed}
use Rattle.automaton.proofs.Values.{Within, same_value}
use Rattle.reducing.specs.Reduced.{kept_of, cell_in, reduced_by}
use Rattle.reducing.specs.Claims.{Lean}
use Rattle.reducing.proofs.Quotient.{Quotient}
use Rattle.reducing.proofs.Facts.{Choice, no_bit, closed, begun, first-kept, well_formed, quotient}

module _ (r : Rule) (good : WellFormed r) (d : List ℕ) (In : ℕ → Type 0) (D : ℕ → Option ℕ → Type 0)
    (C : Choice (automaton_of r) In D d) (lean : Lean r) (long : length r.targets ≡ 512)
    (self : (q : ℕ) → q < r.n → D q (some q)) where
  abbrev a : Automaton
  a = automaton_of r

  abbrev kept : ℕ
  kept = kept_of r.targets d r.initials

  abbrev new : Rule
  new = reduced_by r d kept

  abbrev b : Automaton
  b = automaton_of new

  Q : Quotient a b D (λ x. x ∈ kept) (rank kept)
  Q = quotient r good d In D C

  -- ---- every state stays
  run_kept : {q p : ℕ} {w : List ℕ} → q ∈ kept → Run a q w p → p ∈ kept
  run_kept e (stay l) = e
  run_kept e (move {q = q} {s = s} {r = t} j u) =
      run_kept (closed r good d In D C q s t t e j (self t j.target)) u

  all_kept : (q : ℕ) → q < r.n → q ∈ kept
  all_kept q l =
      let u = (lean.reached q l).1 in
      let i = members_below r.n r.initials u.from good.initials_below u.member in
      run_kept (first-kept r good d In D C u.from (begun r good d In D C u.from u.from u.member (self u.from i))) u.run

  -- ---- and keeps its number
  same_rank : (q : ℕ) → q ≤ r.n → rank kept q ≡ q
  unfolding total
  same_rank zero l = refl
  same_rank (suc q) l = let e = all_kept q l in omega (arith, same_rank q (omega arith))

  count : rank kept 32 ≡ r.n
  count =
      let e : 32 - r.n + r.n ≡ 32 = omega (arith, good.states) in
      ap (rank kept) (sym e) ∙ total_rest (bit kept) (32 - r.n) r.n (no_bit r good d In D C) ∙ same_rank r.n (omega arith)

  rank_of : (q : ℕ) → q < r.n → rank kept q ≡ q
  rank_of q l = same_rank q (omega arith)

  -- what stands for a state is that state
  only_self : (q x : ℕ) → q < r.n → D q (some x) → q ≡ x
  only_self q x l f = lean.distinct q x l (C.state q x f) (C.alike q x f)

  to : Within b a
  to = record {
    arcs = λ q s p j.
        let size : new.n ≡ r.n = omega (arith, count, good.states) in
        let l : q < r.n = omega (arith, j.source) in
        let k = all_kept q l in
        let u = Q.arc_from q s p k (subst (λ (x : ℕ). Arc b x s p) (sym (rank_of q l)) j) in
        let e : u.through ≡ u.to = only_self u.through u.to u.from.target u.chosen in
        let z : p ≡ u.to = u.is ∙ rank_of u.to (C.state u.through u.to u.chosen) in
        subst (λ (x : ℕ). Arc a q s x) (e ∙ sym z) u.from;
    initials = λ p e.
        let u = Q.initial_from p e in
        let i = members_below r.n r.initials u.through good.initials_below u.from in
        let y : u.through ≡ u.to = only_self u.through u.to i u.chosen in
        let z : p ≡ u.to = u.is ∙ rank_of u.to (C.state u.through u.to u.chosen) in
        subst a.Initial (y ∙ sym z) u.from;
    finals = λ p e.
        let size : new.n ≡ r.n = omega (arith, count, good.states) in
        let l : p < r.n = omega (arith, members_below new.n new.finals p (well_formed r good d In D C).finals_below e) in
        Q.final_from p (all_kept p l) (subst b.Final (sym (rank_of p l)) e);
  }

  back : Within a b
  back = record {
    arcs = λ q s p j.
        let i = (Q.arc_to_lem q s p p (all_kept q j.source) j (self p j.target)).1 in
        subst (λ (x : ℕ). Arc b x s p) (rank_of q j.source) (subst (λ (x : ℕ). Arc b (rank kept q) s x) (rank_of p j.target) i);
    initials = λ q e.
        let l = members_below r.n r.initials q good.initials_below e in
        subst b.Initial (rank_of q l) (Q.initial_to q q e (self q l)).1;
    finals = λ q e.
        let l = members_below r.n r.finals q good.finals_below e in
        subst b.Final (rank_of q l) (Q.final_to q (all_kept q l) e);
  }

  pub lean_same : new ≡ r
  lean_same =
      same_value new r (well_formed r good d In D C) good (omega (arith, count, good.states), refl)
      (length_list_from 0 512 (cell_in r.targets d kept))
      long
      to
      back

-- The rule of an accepted file: a cell of its table has exactly the targets of the arcs that stand
-- in the section, so the rule is well formed and its automaton accepts the texts of the file's.
-- Assumes nothing.
use mathlib.Core.Path.{◌≡◌, sym, ap₂, ◌∙◌, subst}
use mathlib.Core.Logic.{◌↔◌, ⊎_elim}
use mathlib.Core.List.{List}
use Prim.Native.Nat.{ℕ, ◌+◌, ◌*◌, ◌/◌, ◌%◌, ◌≤◌, ◌<◌}
use native.Mathlib.Omega.{arith}
use lib.Dec.{ltb}
use lib.ListN.{get_or, get_or-eq_default}
use borrow.Author.Tests.{lt-ltb, le-ltb, ltb-true, ltb-false}
use Rattle.base.proofs.Lists.{length_list_from, cell_of_lem}
use Rattle.base.proofs.Tests.{by_test}
use Rattle.masks.specs.Masks.{◌∈◌}
use Rattle.masks.proofs.Laws.{no_member, below_of, empty_mask}
use Rattle.automaton.specs.Automaton.{Equivalent}
use Rattle.automaton.specs.Rules.{cell_of, target_mask, automaton_of, WellFormed}
use Rattle.automaton.proofs.Laws.{accepts_map}
use Rattle.ruleformat.specs.Format.{state_count, symbol_count, section, arc_count}
use Rattle.ruleformat.specs.Reader.{targets_by, targets_from, rule_of}
use Rattle.ruleformat.specs.Language.{ArcIn, automaton_in}
use Rattle.ruleformat.proofs.Arcs.{bounds}
use Rattle.ruleformat.proofs.Tables.{targets_law}
use Rattle.ruleformat.proofs.Accepted.{Accepted, good_section}

module _ (f : List ℕ) (a : Accepted f) where
  -- a cell of the table is the target mask of its state and symbol
  cell-is : (q s : ℕ) → s < 16 → get_or (rule_of f).targets (cell_of q s) 0 ≡ targets_from f q s
  cell-is q s h =
      let row : (q * 16 + s) / 16 ≡ q = omega arith in
      let col : (q * 16 + s) % 16 ≡ s = omega arith in
      by_test (ltb q 32)
      (λ e.
      let l = ltb-true q 32 e in
      cell_of_lem 512 (λ cell. targets_from f (cell / 16) (cell % 16)) (q * 16 + s) 0 (omega arith) ∙ ap₂ (targets_from f) row col)
      (λ e.
      let l = ltb-false q 32 e in
      let out : 512 ≤ q * 16 + s = omega arith in
      get_or-eq_default (rule_of f).targets 0 (rw (length_list_from 0 512 (λ cell. targets_from f (cell / 16) (cell % 16))) out)
      ∙ sym (rw (le-ltb q (state_count f) (omega (arith, a.states.1)))))

  mask_is : (q s : ℕ) → s < 16 → target_mask (rule_of f).targets q s ≡ targets_from f q s
  mask_is q s h = rw (lt-ltb s 16 h) (cell-is q s h)

  pub in_bounds : (q s t : ℕ) → ArcIn f q s t → (s < symbol_count f) × (t < state_count f)
  in_bounds q s t r =
      let b = bounds (state_count f) (symbol_count f) (section f q) (good_section f a q r.state) r.index r.within in
      (rw r.symbol at b.0, rw r.target at b.1)

  to_mask : (q s t : ℕ) → ArcIn f q s t → t ∈ target_mask (rule_of f).targets q s
  to_mask q s t r =
      let b = in_bounds q s t r in
      rw (mask_is q s (omega (arith, b.0, a.symbols.1)))
      (rw (lt-ltb q (state_count f) r.state)
      ((targets_law (section f q) s t (arc_count (section f q))).1 (record { index = r.index; within = r.within; symbol = r.symbol; target = r.target })))

  of_mask : (q s t : ℕ) → t ∈ target_mask (rule_of f).targets q s → ArcIn f q s t
  of_mask q s t e =
      by_test (ltb s 16)
      (λ h.
      let m : t ∈ targets_from f q s = subst (λ (x : ℕ). t ∈ x) (mask_is q s (ltb-true s 16 h)) e in
      by_test (ltb q (state_count f))
      (λ l.
      let i : t ∈ targets_by (section f q) s = rw l at m in
      let r = (targets_law (section f q) s t (arc_count (section f q))).0 i in
      record { state = ltb-true q (state_count f) l; index = r.index; within = r.within; symbol = r.symbol; target = r.target })
      (λ l. absurd (no_member t (rw l at m))))
      (λ h. absurd (no_member t (rw h at e)))

  pub arcs : (q s t : ℕ) → ArcIn f q s t ↔ t ∈ target_mask (rule_of f).targets q s
  arcs q s t = (to_mask q s t, of_mask q s t)

  pub well_formed : WellFormed (rule_of f)
  well_formed = record {
    states = a.states;
    symbols = a.symbols;
    initials_below = a.initials;
    finals_below = a.finals;
    targets_below = λ q s _.
        below_of (state_count f) (target_mask (rule_of f).targets q s) (λ t e. (in_bounds q s t (of_mask q s t e)).1);
    zero_outside = λ q s _ o.
        empty_mask (target_mask (rule_of f).targets q s)
        (λ t e.
        let r = of_mask q s t e in
        let b = in_bounds q s t r in
        ⊎_elim (λ l. omega (arith, l, r.state)) (λ l. omega (arith, l, b.0)) o);
  }

  pub language : Equivalent (automaton_in f) (automaton_of (rule_of f))
  language w = (
    accepts_map (automaton_in f) (automaton_of (rule_of f)) (λ q l. l)
        (λ q s r x. record { source = x.source; symbol = x.symbol; target = x.target; there = to_mask q s r x.there })
        (λ q i. i)
        (λ q i. i)
        w,
    accepts_map (automaton_of (rule_of f)) (automaton_in f) (λ q l. l)
        (λ q s r x. record { source = x.source; symbol = x.symbol; target = x.target; there = of_mask q s r x.there })
        (λ q i. i)
        (λ q i. i)
        w,
  )

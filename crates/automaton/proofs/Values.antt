-- Rules as values: the cells of a table that is made of a mask for each state and symbol, and two
-- rules with the same arcs and marks. Assumes nothing of a table, and well-formed rules.
--
--   table_law      a cell of such a table
--   Within c d     each arc, initial and final state of the automaton c is one of d
--   all_fields     rules with the same fields are equal
--   same_value     two well-formed rules with the same states, symbols, arcs and marks are equal
use mathlib.Core.Path.{◌≡◌, refl, sym, ap, ◌∙◌}
use mathlib.Core.Bool.{cond}
use mathlib.Core.List.{List}
use Prim.Native.Nat.{ℕ, ◌+◌, ◌*◌, ◌/◌, ◌%◌, ◌<◌, ◌≤◌}
use native.Mathlib.Omega.{arith}
use lib.Dec.{ltb}
use lib.ListN.{length, get_or, get_or-eq_default}
use lib.Seq.{ext_get_or}
use borrow.Author.Tests.{ltb-true, ltb-false, lt-ltb, le-ltb}
use Rattle.base.specs.Lists.{list_from}
use Rattle.base.proofs.Tests.{by_test}
use Rattle.base.proofs.Lists.{length_list_from, cell_of_lem}
use Rattle.masks.proofs.Laws.{ext}
use Rattle.automaton.specs.declared.Rule.{Rule}
use Rattle.automaton.specs.Automaton.{Automaton, Arc}
use Rattle.automaton.specs.Rules.{target_mask, automaton_of, WellFormed}
use Rattle.automaton.proofs.Laws.{arc_of}

-- ---- the cells of a table
abbrev cell_by : ℕ → (ℕ → ℕ → ℕ) → ℕ → ℕ
cell_by n g cell = cond (ltb (cell / 16) n) (g (cell / 16) (cell % 16)) 0

pub table_law : (n : ℕ) (g : ℕ → ℕ → ℕ) (q s : ℕ) → n ≤ 32
    → target_mask (list_from 0 512 (cell_by n g)) q s ≡ cond (ltb s 16) (cond (ltb q n) (g q s) 0) 0
table_law n g q s h =
    by_test (ltb s 16)
    (λ e. rw e
    (by_test (ltb q 32)
    (λ f.
    let ls = ltb-true s 16 e in
    let lq = ltb-true q 32 f in
    let x : (q * 16 + s) / 16 ≡ q = omega arith in
    let y : (q * 16 + s) % 16 ≡ s = omega arith in
    cell_of_lem 512 (cell_by n g) (q * 16 + s) 0 (omega arith)
    ∙ ap (λ (z : ℕ). cond (ltb z n) (g z ((q * 16 + s) % 16)) 0) x
    ∙ ap (λ (z : ℕ). cond (ltb q n) (g q z) 0) y)
    (λ f.
    let lq = ltb-false q 32 f in
    let long = length_list_from 0 512 (cell_by n g) in
    get_or-eq_default (list_from 0 512 (cell_by n g)) 0 {n = q * 16 + s} (omega arith)
    ∙ sym (ap (λ t. cond t (g q s) 0) (le-ltb q n (omega arith))))))
    (λ e. rw e refl)

-- ---- rules with the same states, arcs and marks
pub record Within (c d : Automaton) : Type 0 where
  pub arcs : (q s p : ℕ) → Arc c q s p → Arc d q s p
  pub initials : (q : ℕ) → c.Initial q → d.Initial q
  pub finals : (q : ℕ) → c.Final q → d.Final q

pub all_fields : {n n' k k' i i' f f' : ℕ} {ts ts' : List ℕ} → n ≡ n' → k ≡ k' → i ≡ i' → f ≡ f' → ts ≡ ts'
    → ◌≡◌ {A = Rule} (record { n = n; k = k; initials = i; finals = f; targets = ts })
    (record { n = n'; k = k'; initials = i'; finals = f'; targets = ts' })
all_fields a b c d e = cc

module _ (r m : Rule) (good-r : WellFormed r) (good-m : WellFormed m) where
  cell_mask : (ts : List ℕ) (c : ℕ) → target_mask ts (c / 16) (c % 16) ≡ get_or ts c 0
  cell_mask ts c =
      let l : c % 16 < 16 = omega arith in
      let is : c / 16 * 16 + c % 16 ≡ c = omega arith in
      rw (lt-ltb (c % 16) 16 l, is) refl

  pub same_value : (r.n ≡ m.n) × (r.k ≡ m.k) → length r.targets ≡ 512 → length m.targets ≡ 512
      → Within (automaton_of r) (automaton_of m) → Within (automaton_of m) (automaton_of r) → r ≡ m
  same_value size long-r long-m to back =
      let initials : r.initials ≡ m.initials = ext r.initials m.initials (λ q. (to.initials q, back.initials q)) in
      let finals : r.finals ≡ m.finals = ext r.finals m.finals (λ q. (to.finals q, back.finals q)) in
      let cell : (c : ℕ) → c < length r.targets → get_or r.targets c 0 ≡ get_or m.targets c 0 = λ c l.
      let row : c / 16 < 32 = omega (arith, long-r, l) in
      sym (cell_mask r.targets c)
      ∙ ext (target_mask r.targets (c / 16) (c % 16)) (target_mask m.targets (c / 16) (c % 16)) (λ p. (
        (λ e. (to.arcs (c / 16) (c % 16) p (arc_of r good-r (c / 16) (c % 16) p row e)).there),
        λ e. (back.arcs (c / 16) (c % 16) p (arc_of m good-m (c / 16) (c % 16) p row e)).there,
      ))
      ∙ cell_mask m.targets c in
      let targets : r.targets ≡ m.targets = ext_get_or 0 r.targets m.targets (long-r ∙ sym long-m) cell in
      all_fields size.0 size.1 initials finals targets

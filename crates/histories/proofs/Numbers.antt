-- The number that a call is refused with, read off the state, is the one that the list of calls
-- says: each test of the state is the test of the list, as far as the earlier ones fail. Assumes
-- nothing.
use mathlib.Core.Path.{◌≡◌, refl, sym, ap, ap₂, ◌∙◌}
use mathlib.Core.Bool.{Bool, true, false, cond}
use mathlib.Core.List.{List, [], ◌∷◌}
use mathlib.Core.Option.{Option, none, some}
use Prim.Native.Nat.{ℕ, ◌+◌, min}
use native.Mathlib.Omega.{arith}
use lib.Dec.{eqb, ltb, leb}
use lib.ListN.{length}
use borrow.Author.Tests.{ne_eqb, lt-ltb, le-ltb, leb-true, leb-false}
use Rattle.base.specs.Conditions.{Condition, on, first_of, outside}
use Rattle.base.specs.Options.{is_none}
use Rattle.base.specs.Totals.{total}
use Rattle.base.proofs.Tests.{by_test}
use Rattle.marks.specs.Marks.{text_of}
use Rattle.automaton.specs.declared.Rule.{Rule}
use Rattle.build.specs.declared.Built.{Built}
use Rattle.chunks.specs.Chunks.{foreign}
use Rattle.board.specs.Boards.{places_of, is_empty, comes_late, summed_count, summed_bytes}
use Rattle.board.proofs.Laws.{summed_law, bytes_law}
use Rattle.calls.specs.declared.Judge.{Judge}
use Rattle.histories.specs.History.{rule_from, count_of, standing_text, not_greater, deliver_check, withdraw_check}
use Rattle.calls.specs.Calls.{open_conditions, deliver_conditions, withdraw_conditions}
use Rattle.calls.specs.mirror.Steps.{lacks_rule, lacks_board}
use Rattle.histories.specs.Claims.{BuiltBy, least_after}
use Rattle.histories.proofs.Running.{n_same, k_same}
use Rattle.histories.proofs.Agreement.{Agrees}

-- ---- one condition
module _ (number : ℕ) where
  pub same_test : (a b : Bool) (x y : Option ℕ) → a ≡ b → (b ≡ false → x ≡ y) → cond a (some number) x ≡ cond b (some number) y
  same_test a true x y e f = rw e
  same_test a false x y e f = rw e (f refl)

-- ---- a revision that comes late
late_law : (v : ℕ) (last : Option ℕ) → ltb v (least_after last) ≡ not_greater v last
late_law v none = le-ltb v 0 (omega arith)
late_law v (some u) =
    by_test (leb v u)
    (λ t. lt-ltb v (u + 1) (omega (arith, leb-true v u t)) ∙ sym t)
    (λ t. le-ltb v (u + 1) (omega (arith, leb-false v u t)) ∙ sym t)

-- ---- whether a rule is there
rule_there_lem : (present : Option Rule) (j : Judge) → BuiltBy present j → lacks_rule j ≡ is_none present
rule_there_lem none j e = ap (λ b. eqb b.n 0) e
rule_there_lem (some r) j e =
    ne_eqb j.built.n 0 (λ z. absurd (omega (arith, z, ap (λ (b : Built). b.n) e.0, n_same r e.1 e.2, e.1.states)))

pub symbols_there : (present : Option Rule) (j : Judge) → BuiltBy present j → j.built.k ≡ (rule_from present).k
symbols_there none j e = ap (λ (b : Built). b.k) e
symbols_there (some r) j e = ap (λ (b : Built). b.k) e.0 ∙ k_same r e.1 e.2

module _ (present : Option Rule) (places : ℕ) (at : ℕ → Option (List ℕ)) (last : ℕ → Option ℕ) (j : Judge) (holds : Agrees present places at last j) where
  pub no_rule_lem : lacks_rule j ≡ is_none present
  no_rule_lem = rule_there_lem present j holds.rule

  pub no_board : lacks_board j ≡ eqb places 0
  no_board = ap (λ (x : ℕ). eqb x 0) holds.places_are

  pub places_same : places_of j.board ≡ places
  places_same = ap (λ (x : ℕ). min x 64) holds.places_are ∙ omega (arith, holds.few)

  pub summed_same : summed_count j.board ≡ total (λ i. count_of (rule_from present) i (at i)) places
  summed_same =
      summed_law j.board (λ i. count_of (rule_from present) i (at i)) (λ p l. holds.counts p (omega (arith, l)))
      ∙ ap (total (λ i. count_of (rule_from present) i (at i))) places_same

  pub bytes_same : summed_bytes j.board ≡ total (λ i. length (standing_text (at i))) places
  bytes_same =
      bytes_law j.board (λ i. length (standing_text (at i))) (λ p l. holds.lengths p (omega (arith, l)))
      ∙ ap (total (λ i. length (standing_text (at i)))) places_same

  pub open_number_lem : (n : ℕ)
      → first_of (open_conditions (lacks_rule j) n) ≡ first_of (open_conditions (is_none present) n)
  open_number_lem n = same_test 20 (lacks_rule j) (is_none present) (cond (outside 1 64 n) (some 10) none) (cond (outside 1 64 n) (some 10) none) no_rule_lem (λ _. refl)

  pub withdraw_number_lem : (p : ℕ)
      → first_of (withdraw_conditions (lacks_board j) (places_of j.board) p (is_empty j.board p)) ≡ withdraw_check places (at p) p
  withdraw_number_lem p =
      same_test 21 (lacks_board j) (eqb places 0) (first_of (on 11 (leb (places_of j.board) p) ∷ on 23 (is_empty j.board p) ∷ []))
      (first_of (on 11 (leb places p) ∷ on 23 (is_none (at p)) ∷ []))
      no_board
      (λ b.
      same_test 11 (leb (places_of j.board) p) (leb places p) (cond (is_empty j.board p) (some 23) none) (cond (is_none (at p)) (some 23) none)
      (ap (λ (x : ℕ). leb x p) places_same)
      (λ l. ap (λ (t : Bool). cond t (some 23) none) (holds.empty p (omega (arith, leb-false places p l, holds.few)))))

  -- past 11 the place is one of the board's
  pub deliver_number_lem : (p v : ℕ) (w : List ℕ)
      → first_of (deliver_conditions (lacks_board j) (places_of j.board) p w j.built.k (comes_late j.board p v))
      ≡ deliver_check (rule_from present).k places (last p) p v w
  deliver_number_lem p v w =
      same_test 21 (lacks_board j) (eqb places 0)
      (first_of (on 11 (leb (places_of j.board) p) ∷ from_12 j.built.k (comes_late j.board p v)))
      (first_of (on 11 (leb places p) ∷ from_12 (rule_from present).k (not_greater v (last p))))
      no_board
      (λ b.
      same_test 11 (leb (places_of j.board) p) (leb places p)
      (first_of (from_12 j.built.k (comes_late j.board p v)))
      (first_of (from_12 (rule_from present).k (not_greater v (last p))))
      (ap (λ (x : ℕ). leb x p) places_same)
      (λ l.
      ap₂ (λ (k : ℕ) (late : Bool). first_of (from_12 k late))
      (symbols_there present j holds.rule)
      (ap (ltb v) (holds.revisions p (omega (arith, leb-false places p l, holds.few))) ∙ late_law v (last p))))
    where
      from_12 : ℕ → Bool → List Condition
      from_12 k late = on 12 (ltb 65536 (length w)) ∷ on 13 (foreign (text_of w) k) ∷ on 22 late ∷ []

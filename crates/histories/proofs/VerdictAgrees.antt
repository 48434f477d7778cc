-- The verdict of the state is the verdict that the list of calls says: the state's number of empty
-- places, its join and its sum are the list's; and so is the report, since its bytes are. Assumes
-- nothing.
--
-- The route: where the state agrees with the list (`Agrees`), each place holds the end sets, the
-- count and the length of its standing chunk, or is empty on both sides. So the sums over the
-- places are the same (`empties_same`, and `summed_same` of Numbers.antt), and the join over what
-- is held is the join over the end sets of the list, delegate by delegate (`yes_same`). Without a
-- board both are 21.
use mathlib.Core.Path.{◌≡◌, refl, sym, ap, ap₂, ◌∙◌}
use mathlib.Core.Bool.{true, false, cond}
use mathlib.Core.List.{List}
use mathlib.Core.Option.{Option, none, some}
use Prim.Native.Nat.{ℕ, ◌<◌}
use native.Mathlib.Omega.{arith}
use lib.Dec.{eqb}
use borrow.Author.Tests.{eqb-false}
use Rattle.base.specs.Options.{is_none}
use Rattle.base.specs.Totals.{total}
use Rattle.base.proofs.Tests.{by_test, not_both}
use Rattle.masks.specs.Masks.{shares}
use Rattle.delegates.specs.Alike.{delegate_in}
use Rattle.delegates.specs.Claims.{starts_in}
use Rattle.board.specs.Boards.{empty_places, summed_count, held_in}
use Rattle.board.proofs.Laws.{empty_law}
use Rattle.joins.specs.Joining.{yes_of}
use Rattle.joins.proofs.Claims as joins
use Rattle.automaton.specs.declared.Rule.{Rule}
use Rattle.calls.specs.declared.Judge.{Judge}
use Rattle.calls.specs.Calls.{Call, verdict_by, report_by}
use Rattle.calls.specs.mirror.Steps.{lacks_board, is_yes, verdict_of, report_of}
use Rattle.histories.specs.History.{rule_there, rule_from, places_in, end_of, last_revision, standing, empties_in, summed_in, yes_in, verdict_in, report_in}
use Rattle.histories.proofs.Running.{n_same, delegate_below}
use Rattle.histories.proofs.Agreement.{Agrees}
use Rattle.histories.proofs.Numbers.{no_board, places_same, summed_same, bytes_same}
use Rattle.histories.proofs.Steps.{AgreesWith}

module _ (present : Option Rule) (places : ℕ) (at : ℕ → Option (List ℕ)) (last : ℕ → Option ℕ) (j : Judge) (holds : Agrees present places at last j) where
  pub empties_same : empty_places j.board ≡ total (λ p. cond (is_none (at p)) 1 0) places
  empties_same =
      empty_law j.board (λ p. is_none (at p)) (λ p l. holds.empty p (omega (arith, l)))
      ∙ ap (total (λ p. cond (is_none (at p)) 1 0)) (places_same present places at last j holds)

yes_same : (r : Rule) (places : ℕ) (at : ℕ → Option (List ℕ)) (last : ℕ → Option ℕ) (j : Judge) → Agrees (some r) places at last j
    → is_yes j
    ≡ yes_of (λ p q. end_of r p q (at p)) (delegate_in (starts_in r).delegates) r.n r.initials r.finals places
yes_same r places at last j holds =
    let d = (starts_in r).delegates in
    rw (places_same (some r) places at last j holds, holds.rule.0, n_same r holds.rule.1 holds.rule.2)
    (ap (λ (c : ℕ). shares c r.finals)
    ((joins.claims).join_law j.board.ends d r.n r.initials places holds.rule.1.states.1
    ∙ (joins.claims).join_same (held_in j.board.ends) (λ p q. end_of r p q (at p)) (delegate_in d) r.n r.initials places
    (λ p q x l b e.
    holds.ends p x (omega (arith, l, holds.few))
    (omega (arith, delegate_below r holds.rule.1 holds.rule.2 q x b e, holds.rule.1.states)))))

pub by_rule : (present : Option Rule) (places : ℕ) (at : ℕ → Option (List ℕ)) (last : ℕ → Option ℕ) (j : Judge) → Agrees present places at last j → 0 < places
    → is_yes j
    ≡ yes_of (λ p q. end_of (rule_from present) p q (at p)) (delegate_in (starts_in (rule_from present)).delegates) (rule_from present).n (rule_from present).initials (rule_from present).finals places
by_rule none places at last j holds h = not_both refl (holds.ruled h)
by_rule (some r) places at last j holds h = yes_same r places at last j holds

-- no board on either side, or the same numbers
pub verdict_says : (h : List Call) (j : Judge) → AgreesWith h j → verdict_of j ≡ verdict_in h
unfolding verdict_of
verdict_says h j good =
    let s = standing h in
    let board = no_board (rule_there h) (places_in h) s (last_revision h) j good in
    by_test (eqb (places_in h) 0)
    (λ t. let none_there : lacks_board j ≡ true = board ∙ t in rw (none_there, t))
    (λ t.
    let some-there : lacks_board j ≡ false = board ∙ t in
    let empties : empty_places j.board ≡ empties_in h = empties_same (rule_there h) (places_in h) s (last_revision h) j good in
    let joined : is_yes j ≡ yes_in h = by_rule (rule_there h) (places_in h) s (last_revision h) j good (positive t) in
    let sum : summed_count j.board ≡ summed_in h = summed_same (rule_there h) (places_in h) s (last_revision h) j good in
    ap₄ verdict_by (some-there ∙ sym t) empties joined sum)
  where
    positive : eqb (places_in h) 0 ≡ false → 0 < places_in h
    positive b = let ne = eqb-false (places_in h) 0 b in omega arith

    ap₄ : {A B C D E : Type 0} (f : A → B → C → D → E) {a x : A} {b y : B} {c z : C} {d w : D} → a ≡ x → b ≡ y → c ≡ z → d ≡ w → f a b c d ≡ f x y z w
    ap₄ f p q r s = cc

pub report_says : (h : List Call) (j : Judge) → AgreesWith h j → report_of j ≡ report_in h
report_says h j good = ap₂ report_by (verdict_says h j good) (bytes_same (rule_there h) (places_in h) (standing h) (last_revision h) j good)

-- The diagnosis of the state that a list of calls leaves is the one that the list says, and a list
-- says only one. Assumes nothing.
--
-- The route: where the state agrees with the list, each place is empty on both sides or on neither,
-- and C of the state is C of the list (`loss_same`); so the search finds what it finds by the list
-- (`found_same`). What it finds is in the words of specs/Losses.antt by the law of Continuing.antt.
use mathlib.Core.Path.{◌≡◌, refl, sym, ap, ◌∙◌, subst}
use mathlib.Core.Logic.{◌↔◌}
use mathlib.Core.Bool.{Bool, true, false}
use mathlib.Core.List.{List}
use mathlib.Core.Option.{Option, none, some}
use Prim.Native.Nat.{ℕ, suc, ◌≤◌, ◌<◌}
use native.Mathlib.Omega.{arith}
use lib.Dec.{eqb, ltb}
use borrow.Author.Tests.{eqb-true, ltb-true, ltb-false}
use Rattle.base.specs.Options.{is_none}
use Rattle.base.proofs.Options.{is-none}
use Rattle.base.proofs.Tests.{by_test, not_both}
use Rattle.automaton.specs.declared.Rule.{Rule}
use Rattle.automaton.specs.Automaton.{Automaton}
use Rattle.automaton.specs.Rules.{automaton_of}
use Rattle.live.specs.Continued.{Continued}
use Rattle.delegates.specs.Alike.{delegate_in}
use Rattle.delegates.specs.Claims.{starts_in}
use Rattle.chunks.specs.Chunks.{delegate_set}
use Rattle.chunks.proofs.Claims as chunks
use Rattle.board.specs.Boards.{held_in}
use Rattle.joins.specs.Joining.{join_up_to}
use Rattle.joins.proofs.Claims as joins
use Rattle.calls.specs.declared.Judge.{Judge}
use Rattle.calls.specs.Calls.{Call}
use Rattle.calls.specs.mirror.Steps.{lacks_board}
use Rattle.diagnoses.specs.Diagnosing.{Finding, refused_as, lost_at, open_with, find_from, lost_after, diagnosis_of}
use Rattle.diagnoses.proofs.Finding.{Found, found, find_same}
use Rattle.histories.specs.History.{rule_there, rule_from, rule_in, board_in, places_in, last_revision, standing, end_of, joined_up_to}
use Rattle.histories.specs.Claims.{judge_after}
use Rattle.histories.proofs.Running.{n_same, delegate_below}
use Rattle.histories.proofs.Agreement.{Agrees}
use Rattle.histories.proofs.Numbers.{no_board, places_same}
use Rattle.histories.proofs.EveryList.{good, every_list}
use Rattle.losses.specs.Losses.{FilledAt, Lost, Open, Diagnosed}
use Rattle.losses.proofs.Continuing.{live_at, continues_all, live_all}

-- ---- the words over an automaton, a number of places and what stands at each
module _ (a : Automaton) (places : ℕ) (at : ℕ → Option (List ℕ)) where
  abbrev pub Says : Finding → Type 0
  Says (refused_as x) = ⊥
  Says (lost_at p) =
      (p < places)
      × ((i : ℕ) → i ≤ p → is_none (at i) ≡ false)
      × (Continued a (joined_up_to at (suc p)) → ⊥)
      × ((i : ℕ) → i < p → Continued a (joined_up_to at (suc i)))
  Says (open_with m) =
      (m ≤ places)
      × ((i : ℕ) → i < m → is_none (at i) ≡ false)
      × ((i : ℕ) → i < m → Continued a (joined_up_to at (suc i)))
      × (m < places → is_none (at m) ≡ true)

-- ---- for a rule that is there
module _ (r : Rule) (places : ℕ) (at : ℕ → Option (List ℕ)) (last : ℕ → Option ℕ) (j : Judge) (holds : Agrees (some r) places at last j) where
  -- no member of C past place p has a delegate
  abbrev dead : ℕ → Bool
  dead p = eqb (live_at r holds.rule.1 holds.rule.2 at (suc p)) 0

  loss_same : (p : ℕ) → p < places → lost_after j.board.ends j.built.delegates j.built.n j.built.initials (suc p) ≡ dead p
  loss_same p l =
      let d = (starts_in r).delegates in
      rw (holds.rule.0, n_same r holds.rule.1 holds.rule.2)
      (ap (λ (c : ℕ). eqb c 0)
      ((chunks.claims).delegate_mask_lem d r.n (join_up_to j.board.ends d r.n r.initials (suc p)) holds.rule.1.states.1
      ∙ ap (delegate_set d r.n)
      ((joins.claims).join_law j.board.ends d r.n r.initials (suc p) holds.rule.1.states.1
      ∙ (joins.claims).join_same (held_in j.board.ends) (λ p q. end_of r p q (at p)) (delegate_in d) r.n r.initials (suc p)
      (λ i q x b s e.
      holds.ends i x (omega (arith, l, b, holds.few))
      (omega (arith, delegate_below r holds.rule.1 holds.rule.2 q x s e, holds.rule.1.states))))))

  found_same : 0 < places → diagnosis_of j ≡ find_from (λ p. is_none (at p)) dead 0 places
  unfolding diagnosis_of
  found_same l =
      let there : lacks_board j ≡ false = no_board (some r) places at last j holds ∙ positive in
      rw (there, places_same (some r) places at last j holds)
      (find_same _ _ (λ p. is_none (at p)) dead 0 places (λ p b. holds.empty p (omega (arith, b, holds.few))) (λ p b. loss_same p (omega (arith, b))))
    where
      positive : eqb places 0 ≡ false
      positive = by_test (eqb places 0) (λ e. absurd (omega (arith, l, eqb-true places 0 e))) (λ e. e)

  -- what is found, in words
  in_words : (f : Finding) → Found (λ p. is_none (at p)) dead places f → Says (automaton_of r) places at f
  in_words (refused_as x) w = w
  in_words (lost_at p) w = (
    w.0,
    w.1,
    (λ c. not_both w.2 (live_all r holds.rule.1 holds.rule.2 at holds.texts (suc p) (λ i b. w.1 i (omega arith)) c)),
    λ i b. continues_all r holds.rule.1 holds.rule.2 at holds.texts (suc i) (λ k c. w.1 k (omega arith)) (w.3 i b),
  )
  in_words (open_with m) w = (
    w.0,
    w.1,
    (λ i b. continues_all r holds.rule.1 holds.rule.2 at holds.texts (suc i) (λ k c. w.1 k (omega arith)) (w.2 i b)),
    w.3,
  )

  says : 0 < places → Says (automaton_of r) places at (diagnosis_of j)
  says l = subst (Says (automaton_of r) places at) (sym (found_same l)) (in_words (find_from (λ p. is_none (at p)) dead 0 places) (found (λ p. is_none (at p)) dead places))

says_by : (present : Option Rule) (places : ℕ) (at : ℕ → Option (List ℕ)) (last : ℕ → Option ℕ) (j : Judge) → Agrees present places at last j → 0 < places
    → Says (automaton_of (rule_from present)) places at (diagnosis_of j)
says_by none places at last j holds l = not_both refl (holds.ruled l)
says_by (some r) places at last j holds l = says r places at last j holds l

-- ---- for every list of calls
module _ (h : List Call) where
  pub given : (f : Finding) → board_in h ≡ true → Says (automaton_of (rule_in h)) (places_in h) (standing h) f → Diagnosed h f
  given (refused_as x) b w = absurd w
  given (lost_at p) b w = record { board = b; within = w.0; filled = w.1; stuck = w.2; least = w.3 }
  given (open_with m) b w = record { board = b; within = w.0; filled = w.1; not_lost = w.2; then_empty = λ l. (is-none (standing h m)).0 (w.3 l) }

  no_board_there : board_in h ≡ false → diagnosis_of (judge_after h) ≡ refused_as 21
  unfolding diagnosis_of
  no_board_there b =
      let z : places_in h ≡ 0 =
      by_test (ltb 0 (places_in h))
      (λ l. not_both ((every_list h).verdict.board.1 (ltb-true 0 (places_in h) l)) b)
      (λ l. omega (arith, ltb-false 0 (places_in h) l)) in
      let none_there : lacks_board (judge_after h) ≡ true = no_board (rule_there h) (places_in h) (standing h) (last_revision h) (judge_after h) (good h) ∙ rw z in
      rw none_there

  pub diagnosed : Diagnosed h (diagnosis_of (judge_after h))
  diagnosed =
      by_test (board_in h)
      (λ b.
      given (diagnosis_of (judge_after h)) b
      (says_by (rule_there h) (places_in h) (standing h) (last_revision h) (judge_after h) (good h) ((every_list h).verdict.board.0 b)))
      (λ b. subst (Diagnosed h) (sym (no_board_there b)) (b, refl))

  -- ---- only one
  pub clash : (i : ℕ) {A : Type 0} → FilledAt h i → standing h i ≡ none → A
  clash i f e = not_both ((is-none (standing h i)).1 e) f

  pub three_ways : {A : Type 0} (m n : ℕ) → (m < n → A) → (m ≡ n → A) → (n < m → A) → A
  three_ways m n a b c =
      by_test (ltb m n) (λ l. a (ltb-true m n l))
      (λ l. by_test (ltb n m) (λ k. c (ltb-true n m k)) (λ k. b (omega (arith, ltb-false m n l, ltb-false n m k))))

  lost_once : (p q : ℕ) → Lost h p → Lost h q → p ≡ q
  lost_once p q x y = three_ways p q (λ l. absurd (x.stuck (y.least p l))) (λ e. e) (λ l. absurd (y.stuck (x.least q l)))

  open_once : (m n : ℕ) → Open h m → Open h n → m ≡ n
  open_once m n x y =
      three_ways m n (λ l. clash m (y.filled m l) (x.then_empty (omega (arith, l, y.within))))
      (λ e. e)
      (λ l. clash n (x.filled n l) (y.then_empty (omega (arith, l, x.within))))

  not_lost_open : {A : Type 0} (p m : ℕ) → Lost h p → Open h m → A
  not_lost_open p m x y =
      by_test (ltb p m) (λ l. absurd (x.stuck (y.not_lost p (ltb-true p m l))))
      (λ l. let k = ltb-false p m l in clash m (x.filled m k) (y.then_empty (omega (arith, k, x.within))))

  pub one_finding : (f g : Finding) → Diagnosed h f → Diagnosed h g → f ≡ g
  one_finding (refused_as x) (refused_as y) a b = ap refused_as (a.1 ∙ sym b.1)
  one_finding (refused_as x) (lost_at q) a b = not_both b.board a.0
  one_finding (refused_as x) (open_with n) a b = not_both b.board a.0
  one_finding (lost_at p) (refused_as y) a b = not_both a.board b.0
  one_finding (lost_at p) (lost_at q) a b = ap lost_at (lost_once p q a b)
  one_finding (lost_at p) (open_with n) a b = not_lost_open p n a b
  one_finding (open_with m) (refused_as y) a b = not_both a.board b.0
  one_finding (open_with m) (lost_at q) a b = not_lost_open q m b a
  one_finding (open_with m) (open_with n) a b = ap open_with (open_once m n a b)

  pub diagnosis : (f : Finding) → (diagnosis_of (judge_after h) ≡ f) ↔ Diagnosed h f
  diagnosis f = ((λ e. subst (Diagnosed h) e diagnosed), λ d. one_finding (diagnosis_of (judge_after h)) f diagnosed d)

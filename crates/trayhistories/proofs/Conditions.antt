-- Which calls are accepted, and which are refused with which number, as specs/Conditions.antt says.
-- Assumes nothing.
--
-- An answer is told by the first condition of its call's list that holds; each list is taken apart
-- condition by condition, and each test is turned into what it tests. Bytes are counted in rows of a
-- board's width, which is at least 1.
use mathlib.Core.Path.{◌≡◌, refl, ap}
use mathlib.Core.Logic.Iff
use mathlib.Core.Logic.{◌↔◌, ◌⊎◌, inl, inr, ⊎_elim}
use mathlib.Core.Bool.{true, false, ◌||◌}
use mathlib.Core.List.{List, [], ◌∷◌}
use mathlib.Core.Option.{Option, none, some}
use Prim.Native.Nat.{ℕ, zero, suc, ◌≤◌, ◌<◌}
use native.Mathlib.Omega.{arith}
use lib.Dec.{eqb, leb}
use lib.ListN.{length, get_or}
use borrow.Author.Tests.{le-leb, lt-leb, leb-true, leb-false}
use Rattle.base.specs.Conditions.{Condition, on, first_of, NoneHolds, outside}
use Rattle.base.specs.Options.{is_none, is_some}
use Rattle.base.proofs.Conditions.{none_law, outside_law, is_outside, named, first_here, first_past}
use Rattle.base.proofs.Options.{is-none, is_some_lem, not_some, none-some}
use Rattle.base.proofs.Tests.{by_test, zero_one, or_either, or_neither, or_left, or_right, not_both}
use Rattle.automaton.specs.Automaton.{Text}
use Rattle.chunks.specs.Chunks.{foreign}
use Rattle.histories.proofs.Conditions.{both}
use Rattle.trays.specs.Replies.{accepted, refused, reply_by}
use Rattle.trays.specs.Calls.{Call, opens, delivers, withdraws, not_rows, foreign_to, open_conditions}
use Rattle.trays.proofs.Passing.{whole_rows, both_texts}
use Rattle.trayhistories.specs.History.{row_there, column_there, row_in, column_in, lacks_rule_in, Size, board_there, bands_from, width_in, bands_in, standing, answer_of}
use Rattle.trayhistories.specs.Conditions.{RulesIn, WholeRows, AtOrAbove, AcceptedExactly, RefusedExactly}

-- ---- an answer by its number
pub reply_law : (o : Option ℕ) → (reply_by o accepted ≡ accepted) ↔ (o ≡ none)
reply_law none = (λ e. refl, λ e. refl)
reply_law (some x) = (λ e. zero_one cc, λ e. zero_one cc)

refused_law : (o : Option ℕ) (x : ℕ) → (reply_by o accepted ≡ refused x) ↔ (o ≡ some x)
refused_law none x = (λ e. zero_one cc, λ e. zero_one cc)
refused_law (some y) x = ((λ e. let same : y ≡ x = cc in ap some same), λ e. let same : y ≡ x = cc in ap refused same)

accepted_none : (cs : List Condition) → (reply_by (first_of cs) accepted ≡ accepted) ↔ NoneHolds cs
accepted_none cs = Iff.trans (reply_law (first_of cs)) (none_law cs)

-- ---- what a test tests
is_most : (m n : ℕ) → (leb m n ≡ true) ↔ (m ≤ n)
is_most m n = (leb-true m n, le-leb m n)

-- either rule is absent, and neither
one_absent : {A : Type 0} (o u : Option A) → (is_none o || is_none u ≡ true) ↔ ((o ≡ none) ⊎ (u ≡ none))
one_absent o u = (
  (λ e. by_test (is_none o) (λ t. inl ((is-none o).0 t)) (λ t. let z : is_none u ≡ true = rw t at e in inr ((is-none u).0 z))),
  λ x. or_either (is_none o) (is_none u) (⊎_elim (λ z. inl ((is-none o).1 z)) (λ z. inr ((is-none u).1 z)) x),
)

none_absent : {A : Type 0} (o u : Option A) → (is_none o || is_none u ≡ false) ↔ ((o ≡ none → ⊥) × (u ≡ none → ⊥))
none_absent o u = (
  (λ e. ((is_some_lem o).0 (or_left (is_none o) (is_none u) e), (is_some_lem u).0 (or_right (is_none o) (is_none u) e))),
  λ x. or_neither (is_none o) (is_none u) ((is_some_lem o).1 x.0) ((is_some_lem u).1 x.1),
)

stands_law : {A : Type 0} (o : Option A) → (is_some o ≡ true) ↔ (o ≡ none → ⊥)
stands_law none = (λ e. zero_one cc, λ f. absurd (f refl))
stands_law (some x) = (λ e z. none-some z refl, λ f. refl)

-- a foreign byte, by its place
above_law : (b : List ℕ) (k : ℕ) → (foreign b k ≡ true) ↔ AtOrAbove k b
unfolding foreign
above_law b k = (to b, λ x. from b x.0 x.1 x.2)
  where
    to : (w : List ℕ) → foreign w k ≡ true → AtOrAbove k w
    to [] e = zero_one cc
    to (x ∷ w) e =
        by_test (leb k x)
        (λ l. (0, omega arith, leb-true k x l))
        (λ l. let rest : foreign w k ≡ true = rw l at e in let y = to w rest in (suc y.0, omega (arith, y.1), y.2))

    from : (w : List ℕ) (i : ℕ) → i < length w → k ≤ get_or w i 0 → foreign w k ≡ true
    from [] i h l = absurd (omega (arith, h))
    from (x ∷ w) zero h l = or_either (leb k x) (foreign w k) (inl (le-leb k x l))
    from (x ∷ w) (suc i) h l = or_either (leb k x) (foreign w k) (inr (from w i (omega (arith, h)) l))

either_above : (kr kc : ℕ) (b : List ℕ) → (foreign_to kr kc b ≡ true) ↔ (AtOrAbove kr b ⊎ AtOrAbove kc b)
either_above kr kc b = (
  (λ e.
      by_test (foreign b kr)
      (λ t. inl ((above_law b kr).0 t))
      (λ t. let z : foreign b kc ≡ true = rw t at e in inr ((above_law b kc).0 z))),
  λ x. or_either (foreign b kr) (foreign b kc) (⊎_elim (λ z. inl ((above_law b kr).1 z)) (λ z. inr ((above_law b kc).1 z)) x),
)

-- ---- opening
module _ (h : List Call) (w n : ℕ) where
  abbrev from_10 : List Condition
  from_10 = on 10 (outside 1 8 n) ∷ []

  abbrev from_38 : List Condition
  from_38 = on 38 (outside 1 16 w) ∷ from_10

  rules_law : (lacks_rule_in h ≡ false) ↔ RulesIn h
  rules_law = none_absent (row_there h) (column_there h)

  opening_law : (x : ℕ) → (answer_of h (opens w n) ≡ refused x) ↔ (first_of (open_conditions (lacks_rule_in h) w n) ≡ some x)
  opening_law x = refused_law (first_of (open_conditions (lacks_rule_in h) w n)) x

  past_20 : (x : ℕ) → (first_of (open_conditions (lacks_rule_in h) w n) ≡ some x) ↔ ((lacks_rule_in h ≡ false) × (first_of from_38 ≡ some x))
      → (answer_of h (opens w n) ≡ refused x) ↔ (RulesIn h × (first_of from_38 ≡ some x))
  past_20 x law = Iff.trans (opening_law x) (Iff.trans law (both rules_law (λ _. ((λ e. e), λ e. e))))

  opening : (answer_of h (opens w n) ≡ accepted) ↔ (RulesIn h × ((1 ≤ w) × (w ≤ 16)) × ((1 ≤ n) × (n ≤ 8)))
  opening =
      let law = accepted_none (open_conditions (lacks_rule_in h) w n) in (
        (λ e. let x = law.0 e in (rules_law.0 x.0, (outside_law 1 16 w).0 x.1.0, (outside_law 1 8 n).0 x.1.1.0)),
        λ x. law.1 (rules_law.1 x.0, ((outside_law 1 16 w).1 x.1, ((outside_law 1 8 n).1 x.2, tt))),
      )

  opening_20 : (answer_of h (opens w n) ≡ refused 20) ↔ ((row_there h ≡ none) ⊎ (column_there h ≡ none))
  unfolding named
  opening_20 =
      Iff.trans (opening_law 20)
      (Iff.trans (first_here 20 (lacks_rule_in h) from_38 refl) (one_absent (row_there h) (column_there h)))

  opening_38 : (answer_of h (opens w n) ≡ refused 38) ↔ (RulesIn h × ((w < 1) ⊎ (16 < w)))
  unfolding named
  opening_38 =
      Iff.trans (past_20 38 (first_past 20 38 (lacks_rule_in h) from_38 refl))
      (both ((λ x. x), λ x. x) (λ _. Iff.trans (first_here 38 (outside 1 16 w) from_10 refl) (is_outside 1 16 w)))

  opening_10 : (answer_of h (opens w n) ≡ refused 10) ↔ (RulesIn h × ((1 ≤ w) × (w ≤ 16)) × ((n < 1) ⊎ (8 < n)))
  unfolding named
  opening_10 =
      let one = past_20 10 (first_past 20 10 (lacks_rule_in h) from_38 refl) in
      let two = first_past 38 10 (outside 1 16 w) from_10 refl in
      let here = Iff.trans (first_here 10 (outside 1 8 n) [] refl) (is_outside 1 8 n) in (
        (λ e. let y = one.0 e in let z = two.0 y.1 in (y.0, (outside_law 1 16 w).0 z.0, here.0 z.1)),
        λ y. one.1 (y.0, two.1 ((outside_law 1 16 w).1 y.1, here.1 y.2)),
      )

-- ---- deliveries and withdrawals begin with 21 and 11
-- a board with a band is there
band_there : (board : Option Size) (p : ℕ) → p < bands_from board → is_none board ≡ false
band_there none p l = absurd (omega (arith, l))
band_there (some s) p l = refl

module _ (board : Option Size) (p : ℕ) (cs : List Condition) where
  abbrev board_first : List Condition
  board_first = on 21 (is_none board) ∷ on 11 (leb (bands_from board) p) ∷ cs

  board_21 : named 21 cs ≡ false → (first_of board_first ≡ some 21) ↔ (board ≡ none)
  unfolding named
  board_21 n = Iff.trans (first_here 21 (is_none board) (on 11 (leb (bands_from board) p) ∷ cs) n) (is-none board)

  board_11 : named 11 cs ≡ false → (first_of board_first ≡ some 11) ↔ ((board ≡ none → ⊥) × (bands_from board ≤ p))
  board_11 n =
      Iff.trans (first_past 21 11 (is_none board) (on 11 (leb (bands_from board) p) ∷ cs) refl)
      (both (is_some_lem board) (λ _. Iff.trans (first_here 11 (leb (bands_from board) p) cs n) (is_most (bands_from board) p)))

  board_past : (x : ℕ) → eqb 21 x ≡ false → eqb 11 x ≡ false → (first_of board_first ≡ some x) ↔ ((p < bands_from board) × (first_of cs ≡ some x))
  board_past x a b =
      let one = first_past 21 x (is_none board) (on 11 (leb (bands_from board) p) ∷ cs) a in
      let two = first_past 11 x (leb (bands_from board) p) cs b in (
        (λ e. let y = two.0 (one.0 e).1 in (leb-false (bands_from board) p y.0, y.1)),
        λ y. one.1 (band_there board p y.0, two.1 (lt-leb (bands_from board) p y.0, y.1)),
      )

  -- none of them holds
  board_none : NoneHolds board_first ↔ ((p < bands_from board) × NoneHolds cs)
  board_none = (
    (λ x. (leb-false (bands_from board) p x.1.0, x.1.1)),
    λ y. (band_there board p y.0, (lt-leb (bands_from board) p y.0, y.1)),
  )

-- ---- delivering. Past 21 and 11 a board is there, so its width is at least 1
module _ (h : List Call) (wide : (s : Size) → board_there h ≡ some s → 1 ≤ width_in h) (p : ℕ) (b : List ℕ) where
  abbrev from_22 : List Condition
  from_22 = on 22 (is_some (standing h p)) ∷ []

  abbrev from_13 : List Condition
  from_13 = on 13 (foreign_to (row_in h).k (column_in h).k b) ∷ from_22

  abbrev from_39 : List Condition
  from_39 = on 39 (not_rows (width_in h) b) ∷ from_13

  width_1 : p < bands_in h → 1 ≤ width_in h
  width_1 l = by_board (board_there h) refl
    where
      by_board : (o : Option Size) → board_there h ≡ o → 1 ≤ width_in h
      by_board none e = not_both (ap is_none e) (band_there (board_there h) p l)
      by_board (some s) e = wide s e

  rows_law : p < bands_in h → (not_rows (width_in h) b ≡ false) ↔ WholeRows (width_in h) b
  rows_law l = whole_rows (width_in h) b (width_1 l)

  no_rows_law : p < bands_in h → (not_rows (width_in h) b ≡ true) ↔ (WholeRows (width_in h) b → ⊥)
  no_rows_law l = (
    (λ e x. not_both e ((rows_law l).1 x)),
    λ f. by_test (not_rows (width_in h) b) (λ t. t) (λ t. absurd (f ((rows_law l).0 t))),
  )

  texts_law : (foreign_to (row_in h).k (column_in h).k b ≡ false) ↔ (Text (row_in h).k b × Text (column_in h).k b)
  texts_law = both_texts (row_in h).k (column_in h).k b

  delivery : (answer_of h (delivers p b) ≡ accepted)
      ↔ ((p < bands_in h) × WholeRows (width_in h) b × (Text (row_in h).k b × Text (column_in h).k b) × (standing h p ≡ none))
  delivery =
      let law = Iff.trans (accepted_none (board_first (board_there h) p from_39)) (board_none (board_there h) p from_39) in (
        (λ e.
            let x = law.0 e in
            (x.0, (rows_law x.0).0 x.1.0, texts_law.0 x.1.1.0, (not_some (standing h p)).0 x.1.1.1.0)),
        λ x. law.1 (x.0, ((rows_law x.0).1 x.1, (texts_law.1 x.2, ((not_some (standing h p)).1 x.3, tt)))),
      )

  delivery_law : (x : ℕ) → (answer_of h (delivers p b) ≡ refused x) ↔ (first_of (board_first (board_there h) p from_39) ≡ some x)
  delivery_law x = refused_law (first_of (board_first (board_there h) p from_39)) x

  -- past 21 and 11, and past 39
  past_11 : (x : ℕ) → eqb 21 x ≡ false → eqb 11 x ≡ false → (answer_of h (delivers p b) ≡ refused x) ↔ ((p < bands_in h) × (first_of from_39 ≡ some x))
  past_11 x a c = Iff.trans (delivery_law x) (board_past (board_there h) p from_39 x a c)

  past_39 : (x : ℕ) → eqb 21 x ≡ false → eqb 11 x ≡ false → eqb 39 x ≡ false
      → (answer_of h (delivers p b) ≡ refused x) ↔ ((p < bands_in h) × WholeRows (width_in h) b × (first_of from_13 ≡ some x))
  past_39 x a c d =
      let one = past_11 x a c in
      let two = first_past 39 x (not_rows (width_in h) b) from_13 d in (
        (λ e. let y = one.0 e in let z = two.0 y.1 in (y.0, (rows_law y.0).0 z.0, z.1)),
        λ y. one.1 (y.0, two.1 ((rows_law y.0).1 y.1, y.2)),
      )

  delivery_39 : (answer_of h (delivers p b) ≡ refused 39) ↔ ((p < bands_in h) × (WholeRows (width_in h) b → ⊥))
  unfolding named
  delivery_39 =
      Iff.trans (past_11 39 refl refl)
      (both ((λ x. x), λ x. x) (λ l. Iff.trans (first_here 39 (not_rows (width_in h) b) from_13 refl) (no_rows_law l)))

  delivery_13 : (answer_of h (delivers p b) ≡ refused 13)
      ↔ ((p < bands_in h) × WholeRows (width_in h) b × (AtOrAbove (row_in h).k b ⊎ AtOrAbove (column_in h).k b))
  unfolding named
  delivery_13 =
      let one = past_39 13 refl refl refl in
      let here =
      Iff.trans (first_here 13 (foreign_to (row_in h).k (column_in h).k b) from_22 refl) (either_above (row_in h).k (column_in h).k b) in
      ((λ e. let y = one.0 e in (y.0, y.1, here.0 y.2)), λ y. one.1 (y.0, y.1, here.1 y.2))

  delivery_22 : (answer_of h (delivers p b) ≡ refused 22)
      ↔ ((p < bands_in h) × WholeRows (width_in h) b × (Text (row_in h).k b × Text (column_in h).k b) × (standing h p ≡ none → ⊥))
  unfolding named
  delivery_22 =
      let one = past_39 22 refl refl refl in
      let two = first_past 13 22 (foreign_to (row_in h).k (column_in h).k b) from_22 refl in
      let here = Iff.trans (first_here 22 (is_some (standing h p)) [] refl) (stands_law (standing h p)) in (
        (λ e. let y = one.0 e in let z = two.0 y.2 in (y.0, y.1, texts_law.0 z.0, here.0 z.1)),
        λ y. one.1 (y.0, y.1, two.1 (texts_law.1 y.2, here.1 y.3)),
      )

-- ---- all of them
module _ (h : List Call) (wide : (s : Size) → board_there h ≡ some s → 1 ≤ width_in h) where
  abbrev from_23 : ℕ → List Condition
  from_23 p = on 23 (is_none (standing h p)) ∷ []

  withdrawal_law : (p x : ℕ) → (answer_of h (withdraws p) ≡ refused x) ↔ (first_of (board_first (board_there h) p (from_23 p)) ≡ some x)
  withdrawal_law p x = refused_law (first_of (board_first (board_there h) p (from_23 p))) x

  pub accepted_exactly : AcceptedExactly h
  accepted_exactly = record {
    opening = opening h;
    delivery = delivery h wide;
    withdrawal = λ p.
        Iff.trans (accepted_none (board_first (board_there h) p (from_23 p)))
        (Iff.trans (board_none (board_there h) p (from_23 p))
        (both ((λ x. x), λ x. x) (λ _. ((λ x. (is_some_lem (standing h p)).0 x.0), λ x. ((is_some_lem (standing h p)).1 x, tt)))));
  }

  pub refused_exactly : RefusedExactly h
  unfolding named
  refused_exactly = record {
    open_20 = opening_20 h;
    open_38 = opening_38 h;
    open_10 = opening_10 h;
    deliver_21 = λ p b. Iff.trans (delivery_law h wide p b 21) (board_21 (board_there h) p (from_39 h wide p b) refl);
    deliver_11 = λ p b. Iff.trans (delivery_law h wide p b 11) (board_11 (board_there h) p (from_39 h wide p b) refl);
    deliver_39 = delivery_39 h wide;
    deliver_13 = delivery_13 h wide;
    deliver_22 = delivery_22 h wide;
    withdraw_21 = λ p. Iff.trans (withdrawal_law p 21) (board_21 (board_there h) p (from_23 p) refl);
    withdraw_11 = λ p. Iff.trans (withdrawal_law p 11) (board_11 (board_there h) p (from_23 p) refl);
    withdraw_23 = λ p.
        Iff.trans (withdrawal_law p 23)
        (Iff.trans (board_past (board_there h) p (from_23 p) 23 refl refl)
        (both ((λ x. x), λ x. x) (λ _. Iff.trans (first_here 23 (is_none (standing h p)) [] refl) (is-none (standing h p)))));
  }

-- Which calls are accepted, and which are refused with which number, as specs/Conditions.antt says.
-- Assumes nothing.
--
-- An answer is told by the first condition of its call's list that holds; each list is taken apart
-- condition by condition, and each test is turned into what it tests.
use mathlib.Core.Path.{◌≡◌, refl, sym, ap, ◌∙◌}
use mathlib.Core.Logic.Iff
use mathlib.Core.Logic.{◌↔◌}
use mathlib.Core.Bool.{Bool, true, false, cond}
use mathlib.Core.List.{List, [], ◌∷◌}
use mathlib.Core.Option.{Option, none, some}
use Prim.Native.Nat.{ℕ, ◌<◌, ◌≤◌}
use native.Mathlib.Omega.{arith}
use lib.Dec.{eqb, ltb, leb}
use lib.ListN.{length}
use borrow.Author.Tests.{eq-eqb, ne_eqb, eqb-true, eqb-false, lt-ltb, le-ltb, ltb-true, ltb-false, le-leb, lt-leb, leb-true, leb-false}
use Rattle.base.specs.Options.{is_none}
use Rattle.base.proofs.Options.{none-some, is_some_lem}
use Rattle.base.proofs.Conditions.{none_law, first_law, outside_law, is_outside, named, not_named, first_here, first_past}
use Rattle.base.specs.Conditions.{Condition, on, first_of, NoneHolds, FirstHolds, outside}
use Rattle.base.proofs.Tests.{zero_one}
use Rattle.marks.specs.Marks.{text_of}
use Rattle.automaton.specs.declared.Rule.{Rule}
use Rattle.automaton.specs.Rules.{automaton_of, WellFormed}
use Rattle.rulecheck.specs.Checking.{rule_conditions, rule_number}
use Rattle.rulecheck.proofs.Laws as rulecheck
use Rattle.ruleformat.specs.Refusals.{file_conditions, refusal}
use Rattle.ruleformat.specs.Reader.{rule_of}
use Rattle.ruleformat.specs.Language.{automaton_in}
use Rattle.subsets.specs.Sets.{sets_of}
use Rattle.delegates.specs.Claims.{starts_in}
use Rattle.chunks.specs.Chunks.{foreign}
use Rattle.calls.specs.Replies.{Reply, accepted, installed, delivered, refused}
use Rattle.calls.specs.Calls.{Call, delivers, withdraws, install_number, load_number, open_conditions, with_sets}
use Rattle.calls.proofs.Conditions.{or_else, over, install_number_lem, load_number_lem}
use Rattle.histories.specs.History.{rule_there, rule_in, places_in, looked_of, not_greater, last_revision, standing, reply_by, answer_of}
use Rattle.histories.specs.Method.{TooMany}
use Rattle.histories.specs.Conditions.{AcceptedExactly, RefusedExactly}
use Rattle.histories.proofs.Method.{nine_law, nine_bytes}

-- ---- accepted where no condition holds
pub reply_law : (o : Option ℕ) → (reply_by o accepted ≡ accepted) ↔ (o ≡ none)
reply_law none = (λ e. refl, λ e. refl)
reply_law (some x) = (
  (λ e. zero_one cc),
  λ e. zero_one cc,
)

none_hold : (cs : List Condition) → (reply_by (first_of cs) accepted ≡ accepted) ↔ NoneHolds cs
none_hold cs = (
  (λ e. (none_law cs).0 ((reply_law (first_of cs)).0 e)),
  λ x. (reply_law (first_of cs)).1 ((none_law cs).1 x),
)

-- and what is answered then
pub delivered_law : (o : Option ℕ) (m n : ℕ) → (reply_by o (delivered m) ≡ delivered n) ↔ ((o ≡ none) × (n ≡ m))
delivered_law none m n = ((λ e. (refl, cc)), λ e. ap delivered (sym e.1))
delivered_law (some x) m n = ((λ e. zero_one cc), λ e. let y = e.0 in zero_one cc)

-- ---- one condition
some_places : (n : ℕ) → eqb n 0 ≡ false → 0 < n
some_places n e = let x = eqb-false n 0 e in omega arith

places_some : (n : ℕ) → 0 < n → eqb n 0 ≡ false
places_some n h = ne_eqb n 0 (λ z. absurd (omega arith))

-- ---- an installation: the rule's conditions, then 9
pub installed_law : (o : Option ℕ) (sets m : ℕ) → (reply_by o (installed sets m) ≡ installed sets m) ↔ (o ≡ none)
installed_law none sets m = (λ e. refl, λ e. refl)
installed_law (some x) sets m = (λ e. zero_one cc, λ e. zero_one cc)

pub not-true : (t : Bool) {A : Type 0} → (t ≡ true) ↔ A → (t ≡ false) ↔ (A → ⊥)
not-true true law = (λ e. absurd (let y : ◌≡◌ {A = ℕ} 0 1 = cc in omega arith), λ n. absurd (n (law.0 refl)))
not-true false law = (λ e a. let z = law.1 a in let y : ◌≡◌ {A = ℕ} 0 1 = cc in omega arith, λ n. refl)

-- the number o of a rule or file, then 9 by the test t
module _ (o : Option ℕ) (t : Bool) where
  abbrev then_9 : Option ℕ
  then_9 = or_else o (cond t (some 9) none)

  pub by_none : (then_9 ≡ none) ↔ ((o ≡ none) × (t ≡ false))
  by_none = (to o t, λ x. rw (x.0, x.1))
    where
      to : (o : Option ℕ) (t : Bool) → or_else o (cond t (some 9) none) ≡ none → (o ≡ none) × (t ≡ false)
      to none true e = zero_one cc
      to none false e = (refl, refl)
      to (some y) t e = zero_one cc

  pub by_nine : (o ≡ some 9 → ⊥) → (then_9 ≡ some 9) ↔ ((o ≡ none) × (t ≡ true))
  by_nine other = (to o t other, λ x. rw (x.0, x.1))
    where
      to : (o : Option ℕ) (t : Bool) → (o ≡ some 9 → ⊥) → or_else o (cond t (some 9) none) ≡ some 9 → (o ≡ none) × (t ≡ true)
      to none true b e = (refl, refl)
      to none false b e = zero_one cc
      to (some y) t b e = absurd (b e)

  pub by_other : (x : ℕ) → eqb 9 x ≡ false → (then_9 ≡ some x) ↔ (o ≡ some x)
  by_other x other = (to o t, λ e. rw e)
    where
      to : (o : Option ℕ) (t : Bool) → or_else o (cond t (some 9) none) ≡ some x → o ≡ some x
      to none true e = absurd (let same : 9 ≡ x = cc in eqb-false 9 x other same)
      to none false e = zero_one cc
      to (some y) t e = e

-- one law, and another where its words hold
pub both : {P Q A B : Type 0} → P ↔ A → (A → Q ↔ B) → (P × Q) ↔ (A × B)
both f g = ((λ x. let a = f.0 x.0 in (a, (g a).0 x.1)), λ x. (f.1 x.0, (g x.0).1 x.1))

-- the same number on both sides
pub number_is : {o u : Option ℕ} {A : Type 0} (x : Option ℕ) → o ≡ u → (u ≡ x) ↔ A → (o ≡ x) ↔ A
number_is x e law = ((λ z. law.0 (sym e ∙ z)), λ a. e ∙ law.1 a)

module _ (r : Rule) where
  -- no condition of a rule has the number 9
  rule_below_9 : rule_number r ≡ some 9 → ⊥
  unfolding named
  rule_below_9 e = not_named 9 (rule_conditions r) refl e

  installs_law : (install_number r ≡ none) ↔ (WellFormed r × (TooMany (automaton_of r) → ⊥))
  installs_law =
      number_is none (install_number_lem r)
      (Iff.trans (by_none (rule_number r) (over r)) (both (rulecheck.passes r) (λ good. not-true (over r) (nine_law r good))))

  nine_words : (install_number r ≡ some 9) ↔ (WellFormed r × TooMany (automaton_of r))
  nine_words =
      number_is (some 9) (install_number_lem r)
      (Iff.trans (by_nine (rule_number r) (over r) rule_below_9) (both (rulecheck.passes r) (nine_law r)))

  rule_words : (x : ℕ) → eqb 9 x ≡ false → (install_number r ≡ some x) ↔ (rule_number r ≡ some x)
  rule_words x other = number_is (some x) (install_number_lem r) (by_other (rule_number r) (over r) x other)

-- ---- a load: the file's conditions, then 9
module _ (f : List ℕ) where
  -- no condition of a file has the number 9
  file_below_9 : refusal f ≡ some 9 → ⊥
  unfolding refusal named
  file_below_9 e = not_named 9 (file_conditions f) refl e

  -- reading accepts it, in words
  read_law : (refusal f ≡ none) ↔ NoneHolds (file_conditions f)
  unfolding refusal
  read_law = none_law (file_conditions f)

  many_law : NoneHolds (file_conditions f) → (over (rule_of f) ≡ true) ↔ TooMany (automaton_in f)
  many_law x = nine_bytes f (read_law.1 x)

  loads_law : (load_number f ≡ none) ↔ (NoneHolds (file_conditions f) × (TooMany (automaton_in f) → ⊥))
  loads_law =
      number_is none (load_number_lem f)
      (Iff.trans (by_none (refusal f) (over (rule_of f))) (both read_law (λ x. not-true (over (rule_of f)) (many_law x))))

  file_nine : (load_number f ≡ some 9) ↔ (NoneHolds (file_conditions f) × TooMany (automaton_in f))
  file_nine =
      number_is (some 9) (load_number_lem f)
      (Iff.trans (by_nine (refusal f) (over (rule_of f)) file_below_9) (both read_law many_law))

  file_words : (x : ℕ) → x ≤ 8 → (load_number f ≡ some x) ↔ FirstHolds x (file_conditions f)
  unfolding refusal
  file_words x l =
      number_is (some x) (load_number_lem f)
      (Iff.trans (by_other (refusal f) (over (rule_of f)) x (ne_eqb 9 x (λ e. absurd (omega (arith, e, l))))) (first_law x (file_conditions f)))

-- ---- a number of a list of conditions
pub refused_law : (o : Option ℕ) (a : Reply) (x : ℕ) → (a ≡ refused x → ⊥) → (reply_by o a ≡ refused x) ↔ (o ≡ some x)
refused_law none a x other = (λ e. absurd (other e), λ e. zero_one cc)
refused_law (some y) a x other = (λ e. let same : y ≡ x = cc in ap some same, λ e. let same : y ≡ x = cc in ap refused same)

not_accepted : (x : ℕ) → accepted ≡ refused x → ⊥
not_accepted x e = zero_one cc

pub not_installed : (x sets m : ℕ) → installed sets m ≡ refused x → ⊥
not_installed x sets m e = zero_one cc

-- ---- what a test tests
no_places : (n : ℕ) → (eqb n 0 ≡ true) ↔ (n ≡ 0)
no_places n = (eqb-true n 0, eq-eqb n 0)

is_less : (m n : ℕ) → (ltb m n ≡ true) ↔ (m < n)
is_less m n = (ltb-true m n, lt-ltb m n)

is_most : (m n : ℕ) → (leb m n ≡ true) ↔ (m ≤ n)
is_most m n = (leb-true m n, le-leb m n)

there : {A : Type 0} (o : Option A) → (is_none o ≡ true) ↔ (o ≡ none)
there none = (λ e. refl, λ e. refl)
there (some x) = (
  (λ e. zero_one cc),
  λ e. zero_one cc,
)

-- a revision that is not greater than the last one, and one that is
late_words : (v : ℕ) (o : Option ℕ) → (not_greater v o ≡ true) ↔ (last : ℕ) × (o ≡ some last) × (v ≤ last)
late_words v none = (λ e. zero_one cc, λ x. none-some refl x.1)
late_words v (some u) = (
  (λ e. (u, refl, leb-true v u e)),
  λ x. let same : u ≡ x.0 = cc in le-leb v u (omega (arith, same, x.2)),
)

greater_law : (v : ℕ) (o : Option ℕ) → (not_greater v o ≡ false) ↔ ((last : ℕ) → o ≡ some last → last < v)
greater_law v none = (λ e last x. none-some refl x, λ x. refl)
greater_law v (some u) = (
  (λ e last x. let same : u ≡ last = cc in omega (arith, same, leb-false v u e)),
  λ x. lt-leb v u (x u refl),
)

pub accepted_exactly : (h : List Call) → AcceptedExactly h
accepted_exactly h = record {
  installation = λ r.
      Iff.trans (installed_law (install_number r) (length (sets_of r.targets r.n r.k)) (starts_in r).startcount) (installs_law r);
  load = λ f. Iff.trans (installed_law (load_number f) _ _) (loads_law f);
  opening = λ n.
      let law = none_hold (on 20 (is_none (rule_there h)) ∷ on 10 (outside 1 64 n) ∷ []) in (
        (λ e. let x = law.0 e in let b = (outside_law 1 64 n).0 x.1.0 in ((is_some_lem (rule_there h)).0 x.0, b.0, b.1)),
        λ x. law.1 ((is_some_lem (rule_there h)).1 x.0, ((outside_law 1 64 n).1 (x.1, x.2), tt)),
      );
  delivery = λ p v w n.
      let conditions =
      on 21 (eqb (places_in h) 0) ∷
      on 11 (leb (places_in h) p) ∷
      on 12 (ltb 65536 (length w)) ∷
      on 13 (foreign (text_of w) (rule_in h).k) ∷
      on 22 (not_greater v (last_revision h p)) ∷ [] in
      let law = delivered_law (first_of conditions) (looked_of (rule_in h) p w) n in (
        (λ e.
            let y = law.0 e in
            let x = (none_law conditions).0 y.0 in (
              some_places (places_in h) x.0,
              leb-false (places_in h) p x.1.0,
              ltb-false 65536 (length w) x.1.1.0,
              x.1.1.1.0,
              (greater_law v (last_revision h p)).0 x.1.1.1.1.0,
              y.1,
            )),
        λ x.
            law.1 (
              (none_law conditions).1 (
                places_some (places_in h) x.0,
                (
                  lt-leb (places_in h) p x.1,
                  (
                    le-ltb 65536 (length w) x.2,
                    (x.3, ((greater_law v (last_revision h p)).1 x.4, tt)),
                  ),
                ),
              ),
              x.5,
            ),
      );
  withdrawal = λ p.
      let law = none_hold (on 21 (eqb (places_in h) 0) ∷ on 11 (leb (places_in h) p) ∷ on 23 (is_none (standing h p)) ∷ []) in (
        (λ e.
            let x = law.0 e in
            (some_places (places_in h) x.0, leb-false (places_in h) p x.1.0, (is_some_lem (standing h p)).0 x.1.1.0)),
        λ x. law.1 (places_some (places_in h) x.0, (lt-leb (places_in h) p x.1, ((is_some_lem (standing h p)).1 x.2, tt))),
      );
}

-- ---- the refusals. Deliveries and withdrawals Iff.trans begin with 21 and 11
module _ (places p : ℕ) (cs : List Condition) where
  abbrev board_first : List Condition
  board_first = on 21 (eqb places 0) ∷ on 11 (leb places p) ∷ cs

  board_21 : named 21 cs ≡ false → (first_of board_first ≡ some 21) ↔ (places ≡ 0)
  unfolding named
  board_21 n = Iff.trans (first_here 21 (eqb places 0) (on 11 (leb places p) ∷ cs) n) (no_places places)

  board_11 : named 11 cs ≡ false → (first_of board_first ≡ some 11) ↔ ((0 < places) × (places ≤ p))
  board_11 n =
      let past = first_past 21 11 (eqb places 0) (on 11 (leb places p) ∷ cs) refl in
      let here = Iff.trans (first_here 11 (leb places p) cs n) (is_most places p) in (
        (λ e. let a = past.0 e in (some_places places a.0, here.0 a.1)),
        λ x. past.1 (places_some places x.0, here.1 x.1),
      )

  board_past : (x : ℕ) → eqb 21 x ≡ false → eqb 11 x ≡ false → (first_of board_first ≡ some x) ↔ ((p < places) × (first_of cs ≡ some x))
  board_past x a b =
      let one = first_past 21 x (eqb places 0) (on 11 (leb places p) ∷ cs) a in
      let two = first_past 11 x (leb places p) cs b in (
        (λ e. let y = two.0 (one.0 e).1 in (leb-false places p y.0, y.1)),
        λ y. one.1 (places_some places (omega (arith, y.0)), two.1 (lt-leb places p y.0, y.1)),
      )

module _ (h : List Call) (p v : ℕ) (w : List ℕ) where
  abbrev from_22 : List Condition
  from_22 = on 22 (not_greater v (last_revision h p)) ∷ []

  abbrev from_13 : List Condition
  from_13 = on 13 (foreign (text_of w) (rule_in h).k) ∷ from_22

  abbrev from_12 : List Condition
  from_12 = on 12 (ltb 65536 (length w)) ∷ from_13

  delivery_law : (x : ℕ) → (answer_of h (delivers p v w) ≡ refused x) ↔ (first_of (board_first (places_in h) p from_12) ≡ some x)
  delivery_law x =
      refused_law (first_of (board_first (places_in h) p from_12)) (delivered (looked_of (rule_in h) p w)) x (λ e. zero_one cc)

  -- past 21, 11 and 12
  past_12 : (x : ℕ) → eqb 21 x ≡ false → eqb 11 x ≡ false → eqb 12 x ≡ false
      → (answer_of h (delivers p v w) ≡ refused x) ↔ ((p < places_in h) × (length w ≤ 65536) × (first_of from_13 ≡ some x))
  past_12 x a b c =
      let one = Iff.trans (delivery_law x) (board_past (places_in h) p from_12 x a b) in
      let two = first_past 12 x (ltb 65536 (length w)) from_13 c in (
        (λ e. let y = one.0 e in let z = two.0 y.1 in (y.0, ltb-false 65536 (length w) z.0, z.1)),
        λ y. one.1 (y.0, two.1 (le-ltb 65536 (length w) y.1, y.2)),
      )

  delivery_13 : (answer_of h (delivers p v w) ≡ refused 13) ↔ ((p < places_in h) × (length w ≤ 65536) × (foreign (text_of w) (rule_in h).k ≡ true))
  unfolding named
  delivery_13 =
      let one = past_12 13 refl refl refl in
      let here = first_here 13 (foreign (text_of w) (rule_in h).k) from_22 refl in
      ((λ e. let y = one.0 e in (y.0, y.1, here.0 y.2)), λ y. one.1 (y.0, y.1, here.1 y.2))

  delivery_22 : (answer_of h (delivers p v w) ≡ refused 22)
      ↔ ((p < places_in h) × (length w ≤ 65536) × (foreign (text_of w) (rule_in h).k ≡ false)
      × (last : ℕ) × (last_revision h p ≡ some last) × (v ≤ last))
  unfolding named
  delivery_22 =
      let one = past_12 22 refl refl refl in
      let two = first_past 13 22 (foreign (text_of w) (rule_in h).k) from_22 refl in
      let here = Iff.trans (first_here 22 (not_greater v (last_revision h p)) [] refl) (late_words v (last_revision h p)) in (
        (λ e. let y = one.0 e in let z = two.0 y.2 in let l = here.0 z.1 in (y.0, y.1, z.0, l.0, l.1, l.2)),
        λ y. one.1 (y.0, y.1, two.1 (y.2, here.1 (y.3, y.4, y.5))),
      )

-- a number of the rule
install_law : (r : Rule) (x : ℕ) {A : Type 0} → eqb 9 x ≡ false → (rule_number r ≡ some x) ↔ A → (reply_by (install_number r) (with_sets r) ≡ refused x) ↔ A
install_law r x other law =
    Iff.trans (refused_law (install_number r) (with_sets r) x (not_installed x _ _)) (Iff.trans (rule_words r x other) law)

pub refused_exactly : (h : List Call) → RefusedExactly h
unfolding named
refused_exactly h = record {
  install_3 = λ r. install_law r 3 refl (rulecheck.refused r).number_3;
  install_4 = λ r. install_law r 4 refl (rulecheck.refused r).number_4;
  install_6 = λ r. install_law r 6 refl (rulecheck.refused r).number_6;
  install_8 = λ r. install_law r 8 refl (rulecheck.refused r).number_8;
  install_9 = λ r. Iff.trans (refused_law (install_number r) (with_sets r) 9 (not_installed 9 _ _)) (nine_words r);
  load_by_file = λ f x l. Iff.trans (refused_law (load_number f) (with_sets (rule_of f)) x (not_installed x _ _)) (file_words f x l);
  load_9 = λ f. Iff.trans (refused_law (load_number f) (with_sets (rule_of f)) 9 (not_installed 9 _ _)) (file_nine f);
  open_20 = λ n.
      Iff.trans (refused_law (first_of (open_conditions (is_none (rule_there h)) n)) accepted 20 (not_accepted 20))
      (Iff.trans (first_here 20 (is_none (rule_there h)) (on 10 (outside 1 64 n) ∷ []) refl) (there (rule_there h)));
  open_10 = λ n.
      let one = Iff.trans (refused_law (first_of (open_conditions (is_none (rule_there h)) n)) accepted 10 (not_accepted 10))
      (first_past 20 10 (is_none (rule_there h)) (on 10 (outside 1 64 n) ∷ []) refl) in
      let here = Iff.trans (first_here 10 (outside 1 64 n) [] refl) (is_outside 1 64 n) in (
        (λ e. let y = one.0 e in ((is_some_lem (rule_there h)).0 y.0, here.0 y.1)),
        λ y. one.1 ((is_some_lem (rule_there h)).1 y.0, here.1 y.1),
      );
  deliver_21 = λ p v w. Iff.trans (delivery_law h p v w 21) (board_21 (places_in h) p (from_12 h p v w) refl);
  deliver_11 = λ p v w. Iff.trans (delivery_law h p v w 11) (board_11 (places_in h) p (from_12 h p v w) refl);
  deliver_12 = λ p v w.
      let one = Iff.trans (delivery_law h p v w 12) (board_past (places_in h) p (from_12 h p v w) 12 refl refl) in
      let here = Iff.trans (first_here 12 (ltb 65536 (length w)) (from_13 h p v w) refl) (is_less 65536 (length w)) in
      ((λ e. let y = one.0 e in (y.0, here.0 y.1)), λ y. one.1 (y.0, here.1 y.1));
  deliver_13 = delivery_13 h;
  deliver_22 = delivery_22 h;
  withdraw_21 = λ p. Iff.trans (withdrawal_law p 21) (board_21 (places_in h) p (on 23 (is_none (standing h p)) ∷ []) refl);
  withdraw_11 = λ p. Iff.trans (withdrawal_law p 11) (board_11 (places_in h) p (on 23 (is_none (standing h p)) ∷ []) refl);
  withdraw_23 = λ p.
      let one = Iff.trans (withdrawal_law p 23) (board_past (places_in h) p (on 23 (is_none (standing h p)) ∷ []) 23 refl refl) in
      let here = Iff.trans (first_here 23 (is_none (standing h p)) [] refl) (there (standing h p)) in
      ((λ e. let y = one.0 e in (y.0, here.0 y.1)), λ y. one.1 (y.0, here.1 y.1));
}
  where
    withdrawal_law : (p x : ℕ) → (answer_of h (withdraws p) ≡ refused x) ↔ (first_of (board_first (places_in h) p (on 23 (is_none (standing h p)) ∷ [])) ≡ some x)
    withdrawal_law p x = refused_law (first_of (board_first (places_in h) p (on 23 (is_none (standing h p)) ∷ []))) accepted x (not_accepted x)

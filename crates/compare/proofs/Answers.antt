-- The answer is the one that is due, and no other is. Assumes nothing.
use mathlib.Core.Path.{◌≡◌, refl, sym, ap, ◌∙◌, subst}
use mathlib.Core.Logic.{◌↔◌, ◌⊎◌, inl, inr, ⊎_elim}
use mathlib.Core.Bool.{true, false, cond}
use mathlib.Core.List.{List}
use mathlib.Core.Option.{Option, none, some}
use Prim.Native.Nat.{ℕ, ◌≤◌, ◌<◌, min}
use native.Mathlib.Omega.{arith}
use lib.ListN.{length, get_or, length-take}
use lib.Seq.{get_or-take}
use borrow.Author.Tests.{lt-ltb, ltb-true, ltb-false}
use Rattle.base.proofs.Options.{none-some}
use Rattle.base.proofs.Tests.{zero_one, by_test, not_both}
use Rattle.base.proofs.Conditions.{first_append}
use Rattle.automaton.specs.declared.Rule.{Rule}
use Rattle.automaton.specs.Automaton.{Text, Equivalent}
use Rattle.automaton.specs.Rules.{automaton_of, WellFormed}
use Rattle.rulecheck.proofs.First.{rule_small}
use Rattle.rulecheck.proofs.Claims as check
use Rattle.searches.specs.Search.{word_to}
use Rattle.searches.proofs.Order.{one_text}
use Rattle.searches.proofs.Firsts.{where_meets, where_before}
use Rattle.compare.specs.declared.Which.{Which}
use Rattle.compare.specs.declared.Which.TheVariants.{First, Second}
use Rattle.compare.specs.Compared.{Only, Apart, FirstApart, Same, ManyPairs, pair_conditions, pair_number, Searched, Comparison, apart, same, refused, Due}
use Rattle.compare.specs.Values.{Outcome, Carries, outcome_of, comparison_in}
use Rattle.compare.specs.Search.{which_of, reached_pairs, reached_table, test, first_pairs, found_first, told_apart, many_pairs, own_conditions, compare_number, compare_by, compare_of}
use Rattle.compare.specs.Claims.{RefusedExactly}
use Rattle.compare.proofs.Conditions.{passed, from_where}
use Rattle.compare.proofs.Pairs.{accepted_text, many, first_text, all_same, short_text}
use Rattle.compare.proofs.Values.{outcome_tells, outcome_carries, carries_one}

module _ (one two : Rule) where
  abbrev count : ℕ
  count = length (reached_pairs one two)

  -- ---- the numbers
  number-first : (x : ℕ) → pair_number one two ≡ some x → compare_number one two ≡ some x
  unfolding compare_number
  number-first x e = first_append (pair_conditions one two) (own_conditions one two) ∙ rw e

  pub by_number : (o : Option ℕ) → compare_number one two ≡ o → compare_of one two ≡ compare_by one two o
  unfolding compare_of
  by_number o e = ap (compare_by one two) e

  own_number : pair_number one two ≡ none → compare_number one two ≡ cond (many_pairs one two) (some 45) none
  unfolding compare_number
  own_number e = first_append (pair_conditions one two) (own_conditions one two) ∙ rw e

  pub number_over : pair_number one two ≡ none → many_pairs one two ≡ true → compare_number one two ≡ some 45
  number_over e m = own_number e ∙ rw m

  pub number-none : pair_number one two ≡ none → many_pairs one two ≡ false → compare_number one two ≡ none
  number-none e m = own_number e ∙ rw m

  -- ---- the first 512 pairs
  pub firsts-long : length (first_pairs one two) ≡ min 512 count
  firsts-long = length-take 512 (reached_pairs one two)

  pair-at : (i : ℕ) → i < 512 → get_or (first_pairs one two) i 0 ≡ get_or (reached_pairs one two) i 0
  pair-at i b = get_or-take 512 (reached_pairs one two) i 0 b

  -- those before the one that is found do not tell the two apart
  before : (i : ℕ) → i < found_first one two → i < 512 → test one two (get_or (reached_pairs one two) i 0) ≡ false
  before i b c = ap (test one two) (sym (pair-at i c)) ∙ where_before (test one two) (first_pairs one two) i b

  module _ (pass : pair_number one two ≡ none) where
    good : WellFormed one × WellFormed two × (one.k ≡ two.k)
    good = (passed one two).0 pass

    found : ℕ
    found = found_first one two

    -- ---- too many pairs
    pub many_is : (many_pairs one two ≡ true) ↔ ManyPairs one two
    unfolding found
    many_is = (
      (λ m.
          by_test (told_apart one two)
          (λ t. not_both (rw t at m) refl)
          (λ t.
          let none = ltb-false found (length (first_pairs one two)) t in
          let over = ltb-true 512 count (rw t at m) in
          (many one two good.0 good.1).0 (over, λ i b. before i (omega (arith, firsts-long)) b))),
      λ h.
          let m = (many one two good.0 good.1).1 h in
          let apart_none : told_apart one two ≡ false =
          by_test (told_apart one two)
          (λ t.
          let b = ltb-true found (length (first_pairs one two)) t in
          let small : found < 512 = omega (arith, firsts-long) in
          not_both (ap (test one two) (sym (pair-at found small)) ∙ where_meets (test one two) (first_pairs one two) b) (m.1 found small))
          (λ t. t) in
          rw (lt-ltb 512 count m.0, apart_none),
    )

    -- ---- the search
    module _ (few : many_pairs one two ≡ false) where
      searched : Searched one two
      searched = (pass, λ h. not_both (many_is.1 h) few)

      data Ended : Comparison → Type 0 where
        with-text : found < length (first_pairs one two) → Ended (apart (which_of one.finals (get_or (first_pairs one two) found 0)) (word_to (reached_table one two) found))
        without : count ≤ 512 → count ≤ found → Ended same

      ended : Ended (compare_by one two none)
      unfolding found
      ended =
          by_test (told_apart one two)
          (λ t. rw t (with-text (ltb-true found (length (first_pairs one two)) t)))
          (λ t.
          let most = ltb-false 512 count (rw t at few) in
          let b = ltb-false found (length (first_pairs one two)) t in
          rw t (without most (omega (arith, firsts-long))))

      search-due : {a : Comparison} → Ended a → Due one two a
      unfolding found
      search-due (with-text b) =
          let small : found < 512 = omega (arith, firsts-long) in
          let there : found < count = omega (arith, firsts-long) in
          let is = pair-at found small in (
            searched,
            rw is
                (first_text one two good.0 good.1 found there small
                (ap (test one two) (sym is) ∙ where_meets (test one two) (first_pairs one two) b)
                (λ i c. before i c (omega arith))),
          )
      search-due (without most b) =
          (searched, all_same one two good.0 good.1 most (λ i c. before i (omega arith) (omega arith)))

      search-short : {a : Comparison} → Ended a → (which : Which) (w : List ℕ) → a ≡ apart which w → length w ≤ 511
      search-short (with-text b) which w e =
          let z : word_to (reached_table one two) found ≡ w = cc in
          subst (λ (v : List ℕ). length v ≤ 511) z
          (short_text one two good.0 good.1 found (omega (arith, firsts-long)) (omega (arith, firsts-long)))
      search-short (without most b) which w e = zero_one cc

  -- ---- all cases
  data Way : Comparison → Type 0 where
    unchecked : (x : ℕ) → pair_number one two ≡ some x → Way (refused x)
    too_many : pair_number one two ≡ none → many_pairs one two ≡ true → Way (refused 45)
    within : {a : Comparison} (pass : pair_number one two ≡ none) (few : many_pairs one two ≡ false) → Ended pass few a → Way a

  by_check : (o : Option ℕ) → pair_number one two ≡ o → Way (compare_of one two)
  by_check (some x) e = rw (by_number (some x) (number-first x e)) (unchecked x e)
  by_check none e =
      by_test (many_pairs one two)
      (λ m. rw (by_number (some 45) (number_over e m)) (too_many e m))
      (λ m. rw (by_number none (number-none e m)) (within e m (ended e m)))

  way : Way (compare_of one two)
  way = by_check (pair_number one two) refl

  way-due : {a : Comparison} → Way a → Due one two a
  way-due (unchecked x e) = inl e
  way-due (too_many e m) = inr (e, (many_is e).0 m, refl)
  way-due (within e m h) = search-due e m h

  way-short : {a : Comparison} → Way a → (which : Which) (w : List ℕ) → a ≡ apart which w → length w ≤ 511
  way-short (unchecked x e) which w f = zero_one cc
  way-short (too_many e m) which w f = zero_one cc
  way-short (within e m h) which w f = search-short e m h which w f

  pub short : (which : Which) (w : List ℕ) → compare_of one two ≡ apart which w → length w ≤ 511
  short which w e = way-short way which w e

  -- ---- one answer is due
  some-apart : (which : Which) (w : List ℕ) → FirstApart one two which w → Apart one two w
  some-apart First w h = record { symbols = h.symbols; by = inl h.by }
  some-apart Second w h = record { symbols = h.symbols; by = inr h.by }

  same-which : (x y : Which) (w : List ℕ) → Only x one two w → Only y one two w → x ≡ y
  same-which First First w p q = refl
  same-which First Second w p q = absurd (p.1 q.0)
  same-which Second First w p q = absurd (p.1 q.0)
  same-which Second Second w p q = refl

  not_same : (which : Which) (w : List ℕ) → FirstApart one two which w → Same one two → ⊥
  not_same First w h s = h.by.1 ((s w h.symbols).0 h.by.0)
  not_same Second w h s = h.by.1 ((s w h.symbols).1 h.by.0)

  not_refused : Searched one two → (x : ℕ) → Due one two (refused x) → ⊥
  not_refused s x h = ⊎_elim (λ e. none-some s.0 e) (λ e. s.1 e.1) h

  one_answer : (a b : Comparison) → Due one two a → Due one two b → a ≡ b
  one_answer (apart p v) (apart q w) x y =
      let e : v ≡ w = one_text v w (x.1.no_sooner w (some-apart q w y.1)) (y.1.no_sooner v (some-apart p v x.1)) in
      let f : p ≡ q = same-which p q v x.1.by (subst (λ (z : List ℕ). Only q one two z) (sym e) y.1.by) in
      cc
  one_answer (apart p v) same x y = absurd (not_same p v x.1 y.1)
  one_answer (apart p v) (refused m) x y = absurd (not_refused x.0 m y)
  one_answer same (apart q w) x y = absurd (not_same q w y.1 x.1)
  one_answer same same x y = refl
  one_answer same (refused m) x y = absurd (not_refused x.0 m y)
  one_answer (refused n) (apart q w) x y = absurd (not_refused y.0 n x)
  one_answer (refused n) same x y = absurd (not_refused y.0 n x)
  one_answer (refused n) (refused m) x y =
      ⊎_elim
      (λ e. ⊎_elim (λ f. ap refused (let z : some n ≡ some m = sym e ∙ f in cc)) (λ f. none-some f.0 e) y)
      (λ e. ⊎_elim (λ f. none-some e.0 f) (λ f. ap refused (e.2 ∙ sym f.2)) y)
      x

  pub exactly : (a : Comparison) → (compare_of one two ≡ a) ↔ Due one two a
  exactly a = ((λ e. subst (Due one two) e (way-due way)), λ h. one_answer (compare_of one two) a (way-due way) h)

  pub refused_first : (x : ℕ) → pair_number one two ≡ some x → compare_of one two ≡ refused x
  refused_first x e = (exactly (refused x)).1 (inl e)

  -- ---- what an answer says
  pub named : (which : Which) (w : List ℕ) → compare_of one two ≡ apart which w → Text one.k w × Only which one two w
  named which w e = let h = (exactly (apart which w)).0 e in (h.1.symbols, h.1.by)

  searched-by : (a : Comparison) → ((x : ℕ) → a ≡ refused x → ⊥) → Due one two a → Searched one two
  searched-by (apart which w) h d = d.0
  searched-by same h d = d.0
  searched-by (refused x) h d = absurd (h x refl)

  pub searched-is : ((x : ℕ) → compare_of one two ≡ refused x → ⊥) ↔ Searched one two
  searched-is = (
    (λ h. searched-by (compare_of one two) h ((exactly (compare_of one two)).0 refl)),
    λ s x e. not_refused s x ((exactly (refused x)).0 e),
  )

  abbrev TextOrSame : Type 0
  TextOrSame = ((which : Which) × (w : List ℕ) × FirstApart one two which w × (compare_of one two ≡ apart which w))
      ⊎ (Same one two × (compare_of one two ≡ same))

  told_by : Searched one two → (a : Comparison) → compare_of one two ≡ a → TextOrSame
  told_by s (apart which w) e = inl (which, w, ((exactly (apart which w)).0 e).1, e)
  told_by s same e = inr (((exactly same).0 e).1, e)
  told_by s (refused x) e = absurd (searched-is.1 s x e)

  pub either : Searched one two → TextOrSame
  either s = told_by s (compare_of one two) refl

  pub alike : (compare_of one two ≡ same) ↔ (((x : ℕ) → compare_of one two ≡ refused x → ⊥) × Equivalent (automaton_of one) (automaton_of two))
  alike = (
    (λ e.
        let h = (exactly same).0 e in
        let k : two.k ≡ one.k = sym ((passed one two).0 h.0.0).2 in (
          searched-is.1 h.0,
          λ w. (
            (λ a. (h.1 w (accepted_text (automaton_of one) w a)).0 a),
            λ a. (h.1 w (subst (λ (x : ℕ). Text x w) k (accepted_text (automaton_of two) w a))).1 a,
          ),
        )),
    λ h. (exactly same).1 (searched-is.0 h.0, λ w t. h.1 w),
  )

  -- ---- number by number
  pub numbers : RefusedExactly one two
  numbers = record {
    checked = λ x b. (
      (λ e.
          ⊎_elim
          (λ h.
          ⊎_elim
          (λ f. inl f)
          (λ f.
          ⊎_elim
          (λ g. inr (((check.claims).passes one).0 f.0, g))
          (λ g. absurd (omega (arith, g.1)))
          f.1)
          ((from_where one two x).0 h))
          (λ h. absurd (omega (arith, h.2)))
          ((exactly (refused x)).0 e)),
      λ o.
          refused_first x
          ((from_where one two x).1
          (⊎_elim (λ f. inl f) (λ f. inr (((check.claims).passes one).1 f.0, inl f.1)) o)),
    );
    number_36 = (
      (λ e.
          ⊎_elim
          (λ h.
          ⊎_elim
          (λ f. absurd (omega (arith, rule_small one 36 f)))
          (λ f.
          ⊎_elim
          (λ g. absurd (omega (arith, rule_small two 36 g)))
          (λ g. (((check.claims).passes one).0 f.0, ((check.claims).passes two).0 g.0, g.2))
          f.1)
          ((from_where one two 36).0 h))
          (λ h. absurd (omega (arith, h.2)))
          ((exactly (refused 36)).0 e)),
      λ h.
          refused_first 36
          ((from_where one two 36).1 (inr (((check.claims).passes one).1 h.0, inr (((check.claims).passes two).1 h.1, refl, h.2)))),
    );
    number_45 = (
      (λ e.
          ⊎_elim
          (λ h.
          ⊎_elim
          (λ f. absurd (omega (arith, rule_small one 45 f)))
          (λ f.
          ⊎_elim
          (λ g. absurd (omega (arith, rule_small two 45 g)))
          (λ g. absurd (omega (arith, g.1)))
          f.1)
          ((from_where one two 45).0 h))
          (λ h. let p = (passed one two).0 h.0 in (p.0, p.1, p.2, h.1))
          ((exactly (refused 45)).0 e)),
      λ h.
          (exactly (refused 45)).1
          (inr ((passed one two).1 (h.0, h.1, h.2), h.3, refl)),
    );
    no_other = λ x e.
        ⊎_elim
        (λ h.
        ⊎_elim
        (λ f. inl (rule_small one x f))
        (λ f. ⊎_elim (λ g. inl (rule_small two x g)) (λ g. inr (inl g.1)) f.1)
        ((from_where one two x).0 h))
        (λ h. inr (inr h.2))
        ((exactly (refused x)).0 e);
  }

  -- ---- by value
  abbrev answer : Comparison
  answer = compare_of one two

  pub told : comparison_in (outcome_of answer) ≡ answer
  told = outcome_tells answer short

  pub value : (o : Outcome) → (o ≡ outcome_of answer) ↔ (a : Comparison) × Due one two a × Carries a o
  value o = (
    (λ e. (answer, (exactly answer).0 refl, subst (Carries answer) (sym e) (outcome_carries answer short))),
    λ h. carries_one h.0 o h.2 ∙ ap outcome_of (sym ((exactly h.0).1 h.1)),
  )

-- The answer is the one that is due, and no other is. Assumes nothing.
use mathlib.Core.Path.{◌≡◌, refl, sym, ap, ◌∙◌, subst}
use mathlib.Core.Logic.{◌↔◌, inl, inr, ⊎_elim}
use mathlib.Core.List.{List}
use mathlib.Core.Option.{Option, none, some}
use Prim.Native.Nat.{ℕ, ◌≤◌, ◌<◌}
use native.Mathlib.Omega.{arith}
use lib.Dec.{ltb}
use lib.ListN.{length}
use borrow.Author.Tests.{lt-ltb, ltb-true, ltb-false}
use Rattle.base.proofs.Options.{none-some}
use Rattle.base.proofs.Tests.{zero_one, by_test}
use Rattle.automaton.specs.declared.Rule.{Rule}
use Rattle.automaton.specs.Rules.{WellFormed}
use Rattle.rulecheck.specs.Checking.{rule_number}
use Rattle.rulecheck.proofs.First.{checked_first, checked_then, rule_small}
use Rattle.rulecheck.proofs.Claims as check
use Rattle.searches.specs.Search.{word_to}
use Rattle.searches.proofs.Order.{one_text}
use Rattle.searches.proofs.Firsts.{where_meets, where_before}
use Rattle.samples.specs.declared.Wish.{Wish}
use Rattle.samples.specs.Samples.{ManySets, Searched, Sample, text, nothing, refused, Due}
use Rattle.samples.specs.Values.{Outcome, Carries, outcome_of, sample_in}
use Rattle.samples.specs.Claims.{RefusedExactly}
use Rattle.samples.specs.Search.{reached_sets, reached_table, many_sets, own_conditions, search_number, meets, found_first, sample_by, sample_of}
use Rattle.samples.proofs.Values.{outcome_tells, outcome_carries, carries_one}
use Rattle.samples.proofs.Wishes.{many, first_text, no_text, short_text}

module _ (r : Rule) where
  abbrev count : ℕ
  count = length (reached_sets r)

  -- ---- the numbers
  number-many : rule_number r ≡ none → ManySets r → search_number r ≡ some 35
  unfolding search_number
  number-many e h = checked_then r (own_conditions r) e ∙ rw (lt-ltb 512 count ((many r).1 h))

  module _ (wish : Wish) where
    by_number : (o : Option ℕ) → search_number r ≡ o → sample_of r wish ≡ sample_by o r wish
    unfolding sample_of
    by_number o e = ap (λ (x : Option ℕ). sample_by x r wish) e

    -- ---- the search
    module _ (passed : rule_number r ≡ none) (most : count ≤ 512) where
      good : WellFormed r
      good = ((check.claims).passes r).0 passed

      searched : Searched r
      searched = (passed, λ h. let z = (many r).1 h in omega arith)

      found : ℕ
      found = found_first r wish

      data Ended : Sample → Type 0 where
        with-text : found < count → Ended (text (word_to (reached_table r) found))
        without : count ≤ found → Ended nothing

      ended : Ended (sample_by none r wish)
      unfolding found
      ended =
          by_test (ltb found count)
          (λ t. rw t (with-text (ltb-true found count t)))
          (λ t. rw t (without (ltb-false found count t)))

      search-due : {a : Sample} → Ended a → Due r wish a
      unfolding found
      search-due (with-text b) =
          (searched, first_text r good most wish found b (where_meets (meets r.finals wish) (reached_sets r) b) (where_before (meets r.finals wish) (reached_sets r)))
      search-due (without b) =
          (searched, no_text r good most wish (λ i c. where_before (meets r.finals wish) (reached_sets r) i (omega arith)))

      search-short : {a : Sample} → Ended a → (w : List ℕ) → a ≡ text w → length w ≤ 511
      search-short (with-text b) w e =
          let z : word_to (reached_table r) found ≡ w = cc in subst (λ (v : List ℕ). length v ≤ 511) z (short_text r good most found b)
      search-short (without b) w e = zero_one cc

    -- ---- all cases
    data Way : Sample → Type 0 where
      unchecked : (x : ℕ) → rule_number r ≡ some x → Way (refused x)
      too_many : rule_number r ≡ none → 512 < count → Way (refused 35)
      within : {a : Sample} (passed : rule_number r ≡ none) (most : count ≤ 512) → Ended passed most a → Way a

    by_check : (o : Option ℕ) → rule_number r ≡ o → Way (sample_of r wish)
    unfolding search_number
    by_check (some x) e = rw (by_number (some x) (checked_first r (own_conditions r) x e)) (unchecked x e)
    by_check none e =
        by_test (many_sets r)
        (λ t. rw (by_number (some 35) (checked_then r (own_conditions r) e ∙ rw t)) (too_many e (ltb-true 512 count t)))
        (λ t.
        let most = ltb-false 512 count t in
        rw (by_number none (checked_then r (own_conditions r) e ∙ rw t)) (within e most (ended e most)))

    way : Way (sample_of r wish)
    way = by_check (rule_number r) refl

    way-due : {a : Sample} → Way a → Due r wish a
    way-due (unchecked x e) = inl e
    way-due (too_many e b) = inr (e, (many r).0 b, refl)
    way-due (within e most h) = search-due e most h

    way-short : {a : Sample} → Way a → (w : List ℕ) → a ≡ text w → length w ≤ 511
    way-short (unchecked x e) w f = zero_one cc
    way-short (too_many e b) w f = zero_one cc
    way-short (within e most h) w f = search-short e most h w f

    pub short : (w : List ℕ) → sample_of r wish ≡ text w → length w ≤ 511
    short w e = way-short way w e

    -- ---- one answer is due
    one : (a b : Sample) → Due r wish a → Due r wish b → a ≡ b
    one (text v) (text w) x y = ap text (one_text v w (x.1.no_sooner w y.1.wished) (y.1.no_sooner v x.1.wished))
    one (text v) nothing x y = absurd (y.1 v x.1.wished)
    one (text v) (refused m) x y = absurd (⊎_elim (λ e. none-some x.0.0 e) (λ e. x.0.1 e.1) y)
    one nothing (text w) x y = absurd (x.1 w y.1.wished)
    one nothing nothing x y = refl
    one nothing (refused m) x y = absurd (⊎_elim (λ e. none-some x.0.0 e) (λ e. x.0.1 e.1) y)
    one (refused n) (text w) x y = absurd (⊎_elim (λ e. none-some y.0.0 e) (λ e. y.0.1 e.1) x)
    one (refused n) nothing x y = absurd (⊎_elim (λ e. none-some y.0.0 e) (λ e. y.0.1 e.1) x)
    one (refused n) (refused m) x y =
        ⊎_elim
        (λ e. ⊎_elim (λ f. ap refused (let z : some n ≡ some m = sym e ∙ f in cc)) (λ f. none-some f.0 e) y)
        (λ e. ⊎_elim (λ f. none-some e.0 f) (λ f. ap refused (e.2 ∙ sym f.2)) y)
        x

    pub exactly : (a : Sample) → (sample_of r wish ≡ a) ↔ Due r wish a
    exactly a = ((λ e. subst (Due r wish) e (way-due way)), λ h. one (sample_of r wish) a (way-due way) h)

    pub refused_alike : (x : ℕ) → (sample_of r wish ≡ refused x) ↔ (search_number r ≡ some x)
    unfolding search_number
    refused_alike x = (
      (λ e. ⊎_elim (checked_first r (own_conditions r) x) (λ h. number-many h.0 h.1 ∙ ap some (sym h.2)) ((exactly (refused x)).0 e)),
      by_number (some x),
    )

    -- ---- number by number
    pub numbers : RefusedExactly r wish
    numbers = record {
      checked = λ x b. (
        (λ e. ⊎_elim (λ h. h) (λ h. absurd (omega (arith, h.2))) ((exactly (refused x)).0 e)),
        λ e. (exactly (refused x)).1 (inl e),
      );
      number_35 = (
        (λ e. ⊎_elim (λ h. absurd (omega (arith, rule_small r 35 h))) (λ h. (((check.claims).passes r).0 h.0, h.1)) ((exactly (refused 35)).0 e)),
        λ h. (exactly (refused 35)).1 (inr (((check.claims).passes r).1 h.0, h.1, refl)),
      );
      no_other = λ x e. ⊎_elim (λ h. inl (rule_small r x h)) (λ h. inr h.2) ((exactly (refused x)).0 e);
    }

    -- ---- by value
    abbrev answer : Sample
    answer = sample_of r wish

    pub told : sample_in (outcome_of answer) ≡ answer
    told = outcome_tells answer short

    pub value : (o : Outcome) → (o ≡ outcome_of answer) ↔ (a : Sample) × Due r wish a × Carries a o
    value o = (
      (λ e. (answer, (exactly answer).0 refl, subst (Carries answer) (sym e) (outcome_carries answer short))),
      λ h. carries_one h.0 o h.2 ∙ ap outcome_of (sym ((exactly h.0).1 h.1)),
    )

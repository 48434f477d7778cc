-- What summarizing and concluding are refused with, on any judge, condition by condition. Assumes
-- nothing.
use mathlib.Core.Path.{◌≡◌, refl, sym, ap, ◌∙◌}
use mathlib.Core.Logic.Iff
use mathlib.Core.Logic.{◌↔◌, ◌⊎◌, inl, inr, ⊎_elim}
use mathlib.Core.Bool.{Bool, true, false, cond, ◌||◌, not}
use mathlib.Core.List.{List, [], ◌∷◌}
use mathlib.Core.Option.{Option, none, some}
use Prim.Native.Nat.{ℕ, ◌<◌}
use native.Mathlib.Omega.{arith}
use lib.Dec.{eqb}
use borrow.Author.Tests.{eq-eqb, ne_eqb, eqb-true, eqb-false, lt-ltb}
use Rattle.base.specs.Conditions.{Condition, on, first_of}
use Rattle.base.proofs.Conditions.{none_law, first_law, named, first_here, first_past}
use Rattle.base.proofs.Options.{none-some}
use Rattle.base.proofs.Tests.{by_test, not_both, zero_one, or_either, or_neither, or_left, or_right}
use Rattle.masks.specs.Masks.{shares}
use Rattle.digests.specs.Digests.{digest_of}
use Rattle.chunks.specs.Taking.{chunk_conditions, chunk_number}
use Rattle.chunks.proofs.Claims as chunks
use Rattle.calls.specs.declared.Judge.{Judge}
use Rattle.calls.specs.Replies.{Judgement, waiting, yes_with, no_with, refused_with, refusal_in}
use Rattle.calls.specs.Calls.{report_by}
use Rattle.calls.specs.mirror.Steps.{lacks_rule}
use Rattle.summaries.specs.declared.Summary.{Summary}
use Rattle.summaries.specs.Summaries.{no_summary, made_of, summary_by, summary_number, summarize_of, reached_by, conclude_conditions, conclude_number, said_by, conclude_by, conclude_of}
use Rattle.summaries.specs.Claims.{SummarizedExactly, ConcludedExactly}

-- ---- the tests
both : {A B C D : Type 0} → A ↔ B → C ↔ D → (A × C) ↔ (B × D)
both f g = ((λ x. (f.0 x.0, g.0 x.1)), λ x. (f.1 x.0, g.1 x.1))

equal : (x y : ℕ) → (eqb x y ≡ true) ↔ (x ≡ y)
equal x y = (eqb-true x y, eq-eqb x y)

above : (x : ℕ) → (eqb x 0 ≡ false) ↔ (0 < x)
above x = ((λ e. let n = eqb-false x 0 e in omega arith), λ l. ne_eqb x 0 (λ z. omega arith))

other-than : (x y : ℕ) → (not (eqb x y) ≡ true) ↔ (x ≡ y → ⊥)
other-than x y = (
  (λ e z. let f : not true ≡ true = rw (eq-eqb x y z) at e in zero_one cc),
  λ n. ap not (ne_eqb x y n),
)

same-as : (x y : ℕ) → (not (eqb x y) ≡ false) ↔ (x ≡ y)
same-as x y = (
  (λ e. by_test (eqb x y) (eqb-true x y) (λ f. let g : not false ≡ false = rw f at e in zero_one cc)),
  λ z. ap not (eq-eqb x y z),
)

one_of : {A B : Type 0} (s t : Bool) → (s ≡ true) ↔ A → (t ≡ true) ↔ B → ((s || t) ≡ true) ↔ (A ⊎ B)
one_of s t f g = (
  (λ e. by_test s (λ x. inl (f.0 x)) (λ x. by_test t (λ y. inr (g.0 y)) (λ y. not_both e (or_neither s t x y)))),
  λ u. or_either s t (⊎_elim (λ x. inl (f.1 x)) (λ y. inr (g.1 y)) u),
)

neither : {A B : Type 0} (s t : Bool) → (s ≡ false) ↔ A → (t ≡ false) ↔ B → ((s || t) ≡ false) ↔ (A × B)
neither s t f g = (
  (λ e. (f.0 (or_left s t e), g.0 (or_right s t e))),
  λ u. or_neither s t (f.1 u.0) (g.1 u.1),
)

positive : (x : ℕ) → (not (eqb x 0) ≡ true) ↔ (0 < x)
positive x = ((λ e. let n = (other-than x 0).0 e in omega arith), λ l. (other-than x 0).1 (λ z. omega arith))

-- ---- summarizing
by_refusal : (o : Option ℕ) (a : Summary) → (summary_by o a).refusal ≡ o
by_refusal none a = refl
by_refusal (some x) a = refl

by_zeros : (o : Option ℕ) (a : Summary) (x : ℕ) → o ≡ some x → (summary_by o a).summary ≡ no_summary
by_zeros none a x e = none-some refl e
by_zeros (some y) a x e = refl

module _ (j : Judge) (w : List ℕ) where
  past_20 : (x : ℕ) → eqb 20 x ≡ false → (summary_number j w ≡ some x) ↔ ((0 < j.built.n) × (chunk_number j.built.k w ≡ some x))
  unfolding summary_number chunk_number
  past_20 x other = Iff.trans (first_past 20 x (lacks_rule j) (chunk_conditions j.built.k w) other) (both (above j.built.n) ((λ e. e), λ e. e))

  only-20 : (summary_number j w ≡ some 20) ↔ (j.built.n ≡ 0)
  unfolding summary_number chunk_number named
  only-20 = Iff.trans (first_here 20 (lacks_rule j) (chunk_conditions j.built.k w) refl) (equal j.built.n 0)

  taken-so : (summary_number j w ≡ none) ↔ ((0 < j.built.n) × (chunk_number j.built.k w ≡ none))
  unfolding summary_number
  taken-so = of (lacks_rule j) (chunk_number j.built.k w) (above j.built.n)
    where
      of : {A : Type 0} (t : Bool) (o : Option ℕ) → (t ≡ false) ↔ A → (cond t (some 20) o ≡ none) ↔ (A × (o ≡ none))
      of true o f = ((λ e. none-some e refl), λ x. not_both refl (f.1 x.0))
      of false o f = ((λ e. (f.0 refl, e)), λ x. x.1)

  some_number : (x : ℕ) → summary_number j w ≡ some x → (x ≡ 20) ⊎ (x ≡ 12) ⊎ (x ≡ 13)
  some_number x e =
      by_test (eqb 20 x) (λ t. inl (sym (eqb-true 20 x t)))
      (λ f. inr (((chunks.claims).taking j.built.k w).no_other x ((past_20 x f).0 e).1))

  module _ (number : ℕ) where
    pub refusal_is : (summarize_of j number w).refusal ≡ summary_number j w
    unfolding summarize_of
    refusal_is = by_refusal (summary_number j w) (made_of j.built number w)

    zeros : (x : ℕ) → (summarize_of j number w).refusal ≡ some x → (summarize_of j number w).summary ≡ no_summary
    unfolding summarize_of
    zeros x e = by_zeros (summary_number j w) (made_of j.built number w) x (sym refusal_is ∙ e)

    pub made : (summarize_of j number w).refusal ≡ none → (summarize_of j number w).summary ≡ made_of j.built number w
    unfolding summarize_of
    made e = let n : summary_number j w ≡ none = sym refusal_is ∙ e in rw n

pub summarized : (j : Judge) (number : ℕ) (w : List ℕ) → SummarizedExactly j number w
summarized j number w =
    let law = (chunks.claims).taking j.built.k w in
    record {
      refused_20 = rw (refusal_is j w number) (only-20 j w);
      refused_12 = rw (refusal_is j w number) (Iff.trans (past_20 j w 12 refl) (both ((λ e. e), λ e. e) law.number_12));
      refused_13 =
          let x = Iff.trans (past_20 j w 13 refl) (both ((λ e. e), λ e. e) law.number_13) in
          rw (refusal_is j w number) ((λ e. let y = x.0 e in (y.0, y.1.0, y.1.1)), λ y. x.1 (y.0, (y.1, y.2)));
      taken =
          let x = Iff.trans (taken-so j w) (both ((λ e. e), λ e. e) law.taken) in
          rw (refusal_is j w number) ((λ e. let y = x.0 e in (y.0, y.1.0, y.1.1)), λ y. x.1 (y.0, (y.1, y.2)));
      no_other = λ x e. some_number j w x (sym (refusal_is j w number) ∙ e);
      zeros = λ x e. zeros j w number x e;
      made = made j w number;
      numbered = λ e l. rw (made j w number e, lt-ltb number 18446744073709551615 l) (refl, omega arith, refl);
      last_number = λ e. rw (made j w 18446744073709551615 e) (refl, refl);
    }

-- ---- concluding
pub refusal-said : (v : Judgement) (x : ℕ) → (v ≡ refused_with x) ↔ (refusal_in v ≡ some x)
refusal-said (waiting e) x = ((λ z. zero_one cc), λ z. none-some refl z)
refusal-said (yes_with c) x = ((λ z. zero_one cc), λ z. none-some refl z)
refusal-said (no_with c) x = ((λ z. zero_one cc), λ z. none-some refl z)
refusal-said (refused_with y) x = ((λ z. let e : y ≡ x = cc in ap some e), λ z. let e : y ≡ x = cc in ap refused_with e)

by_number : (o : Option ℕ) (t : Bool) (count bytes : ℕ) → refusal_in (conclude_by o (report_by (said_by t count) bytes)).verdict ≡ o
by_number none true count bytes = refl
by_number none false count bytes = refl
by_number (some x) t count bytes = refl

module _ (j : Judge) (a : Summary) (n : ℕ) where
  pub number_is : refusal_in (conclude_of j a n).verdict ≡ conclude_number j a n
  unfolding conclude_of
  number_is = by_number (conclude_number j a n) (shares (reached_by j.built a) j.built.finals) a.count a.bytes

  pub reported : refusal_in (conclude_of j a n).verdict ≡ none
      → conclude_of j a n ≡ report_by (said_by (shares (reached_by j.built a) j.built.finals) a.count) a.bytes
  unfolding conclude_of
  reported e = let f : conclude_number j a n ≡ none = sym number_is ∙ e in rw f

  said : (x : ℕ) → ((conclude_of j a n).verdict ≡ refused_with x) ↔ (conclude_number j a n ≡ some x)
  said x = rw (← number_is) (refusal-said (conclude_of j a n).verdict x)

  abbrev test-42 : Bool
  test-42 = not (eqb a.broken 0) || not (eqb a.first 0)

  abbrev test-43 : Bool
  test-43 = not (eqb a.rule (digest_of j.built))

  abbrev test-44 : Bool
  test-44 = eqb n 0 || not (eqb a.end n)

  abbrev from-44 : List Condition
  from-44 = on 44 test-44 ∷ []

  abbrev from-43 : List Condition
  from-43 = on 43 test-43 ∷ from-44

  abbrev from-42 : List Condition
  from-42 = on 42 test-42 ∷ from-43

  holds-42 : (test-42 ≡ true) ↔ ((0 < a.broken) ⊎ (0 < a.first))
  holds-42 = one_of (not (eqb a.broken 0)) (not (eqb a.first 0)) (positive a.broken) (positive a.first)

  fails-42 : (test-42 ≡ false) ↔ ((a.broken ≡ 0) × (a.first ≡ 0))
  fails-42 = neither (not (eqb a.broken 0)) (not (eqb a.first 0)) (same-as a.broken 0) (same-as a.first 0)

  holds-44 : (test-44 ≡ true) ↔ ((n ≡ 0) ⊎ (a.end ≡ n → ⊥))
  holds-44 = one_of (eqb n 0) (not (eqb a.end n)) (equal n 0) (other-than a.end n)

  fails-44 : (test-44 ≡ false) ↔ ((0 < n) × (a.end ≡ n))
  fails-44 = neither (eqb n 0) (not (eqb a.end n)) (above n) (same-as a.end n)

  past-20-to : (x : ℕ) {A : Type 0} → eqb 20 x ≡ false → (first_of from-42 ≡ some x) ↔ A → (conclude_number j a n ≡ some x) ↔ ((0 < j.built.n) × A)
  unfolding conclude_number
  past-20-to x other law = Iff.trans (first_past 20 x (lacks_rule j) from-42 other) (both (above j.built.n) law)

  past-42 : (x : ℕ) {A : Type 0} → eqb 42 x ≡ false → (first_of from-43 ≡ some x) ↔ A → (first_of from-42 ≡ some x) ↔ (((a.broken ≡ 0) × (a.first ≡ 0)) × A)
  past-42 x other law = Iff.trans (first_past 42 x test-42 from-43 other) (both fails-42 law)

  past-43 : (x : ℕ) {A : Type 0} → eqb 43 x ≡ false → (first_of from-44 ≡ some x) ↔ A → (first_of from-43 ≡ some x) ↔ ((a.rule ≡ digest_of j.built) × A)
  past-43 x other law = Iff.trans (first_past 43 x test-43 from-44 other) (both (same-as a.rule (digest_of j.built)) law)

  only-20-to : (conclude_number j a n ≡ some 20) ↔ (j.built.n ≡ 0)
  unfolding conclude_number named
  only-20-to = Iff.trans (first_here 20 (lacks_rule j) from-42 refl) (equal j.built.n 0)

  here-42 : (first_of from-42 ≡ some 42) ↔ ((0 < a.broken) ⊎ (0 < a.first))
  unfolding named
  here-42 = Iff.trans (first_here 42 test-42 from-43 refl) holds-42

  here-43 : (first_of from-43 ≡ some 43) ↔ (a.rule ≡ digest_of j.built → ⊥)
  unfolding named
  here-43 = Iff.trans (first_here 43 test-43 from-44 refl) (other-than a.rule (digest_of j.built))

  here-44 : (first_of from-44 ≡ some 44) ↔ ((n ≡ 0) ⊎ (a.end ≡ n → ⊥))
  unfolding named
  here-44 = Iff.trans (first_here 44 test-44 [] refl) holds-44

  none_so : (conclude_number j a n ≡ none)
      ↔ ((0 < j.built.n) × (a.broken ≡ 0) × (a.first ≡ 0) × (a.rule ≡ digest_of j.built) × (0 < n) × (a.end ≡ n))
  unfolding conclude_number
  none_so =
      let law = none_law (conclude_conditions j a n) in (
        (λ e.
            let x = law.0 e in
            let y = fails-42.0 x.1.0 in
            let z = fails-44.0 x.1.1.1.0 in
            ((above j.built.n).0 x.0, y.0, y.1, (same-as a.rule (digest_of j.built)).0 x.1.1.0, z.0, z.1)),
        λ x.
            law.1 (
              (above j.built.n).1 x.0,
              (fails-42.1 (x.1, x.2), ((same-as a.rule (digest_of j.built)).1 x.3, (fails-44.1 (x.4, x.5), tt))),
            ),
      )

  one_number : (x : ℕ) → conclude_number j a n ≡ some x → (x ≡ 20) ⊎ (x ≡ 42) ⊎ (x ≡ 43) ⊎ (x ≡ 44)
  unfolding conclude_number
  one_number x e =
      ⊎_elim (λ t. inl (sym t.1))
      (λ t.
      ⊎_elim (λ u. inr (inl (sym u.1)))
      (λ u.
      ⊎_elim (λ v. inr (inr (inl (sym v.1))))
      (λ v. ⊎_elim (λ y. inr (inr (inr (sym y.1)))) (λ y. absurd y.1) v.1)
      u.1)
      t.1)
      ((first_law x (conclude_conditions j a n)).0 e)

  pub concluded : ConcludedExactly j a n
  concluded = record {
    refused_20 = Iff.trans (said 20) only-20-to;
    refused_42 = Iff.trans (said 42) (past-20-to 42 refl here-42);
    refused_43 =
        let law = Iff.trans (said 43) (past-20-to 43 refl (past-42 43 refl here-43)) in
        ((λ e. let x = law.0 e in (x.0, x.1.0.0, x.1.0.1, x.1.1)), λ x. law.1 (x.0, ((x.1, x.2), x.3)));
    refused_44 =
        let law = Iff.trans (said 44) (past-20-to 44 refl (past-42 44 refl (past-43 44 refl here-44))) in (
          (λ e. let x = law.0 e in (x.0, x.1.0.0, x.1.0.1, x.1.1.0, x.1.1.1)),
          λ x. law.1 (x.0, ((x.1, x.2), (x.3, x.4))),
        );
    taken = rw number_is none_so;
    no_other = λ x e. one_number x ((said x).0 e);
  }

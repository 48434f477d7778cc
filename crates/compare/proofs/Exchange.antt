-- Compared the other way round, two rules have the same answer with their names exchanged: each of the
-- words that say which answer is due holds of the two in either order. Assumes that each rule is well
-- formed where it is said.
use mathlib.Core.Path.{◌≡◌, refl, sym, subst}
use mathlib.Core.Logic.{inl, inr, ⊎_elim}
use mathlib.Core.List.{List}
use mathlib.Core.Option.{none}
use Prim.Native.Nat.{ℕ}
use Rattle.base.proofs.Options.{none-some}
use Rattle.automaton.specs.declared.Rule.{Rule}
use Rattle.automaton.specs.Automaton.{Text}
use Rattle.automaton.specs.Rules.{WellFormed}
use Rattle.rulecheck.specs.Checking.{rule_number}
use Rattle.rulecheck.proofs.Claims as check
use Rattle.compare.specs.declared.Which.{Which}
use Rattle.compare.specs.declared.Which.TheVariants.{First, Second}
use Rattle.compare.specs.Compared.{Only, Apart, ManyPairs, pair_number, Searched, Comparison, apart, same, refused, other_rule, exchanged, Due}
use Rattle.compare.specs.Search.{compare_of}
use Rattle.compare.proofs.Conditions.{passed, from_where}
use Rattle.compare.proofs.Answers.{exactly}

only_other : (one two : Rule) (which : Which) (w : List ℕ) → Only which one two w → Only (other_rule which) two one w
only_other one two First w h = h
only_other one two Second w h = h

number_other : (one two : Rule) → pair_number one two ≡ none → pair_number two one ≡ none
number_other one two e =
    let p = (passed one two).0 e in
    (passed two one).1 (p.1, p.0, sym p.2)

text_other : {k l : ℕ} → k ≡ l → (w : List ℕ) → Text k w → Text l w
text_other e w t = subst (λ (x : ℕ). Text x w) e t

apart_other : (one two : Rule) → one.k ≡ two.k → (w : List ℕ) → Apart one two w → Apart two one w
apart_other one two k w h = record { symbols = text_other k w h.symbols; by = ⊎_elim (λ x. inr x) (λ x. inl x) h.by }

many_other : (one two : Rule) → one.k ≡ two.k → ManyPairs one two → ManyPairs two one
many_other one two k h = record {
  text = h.text;
  symbols = λ i b. text_other k (h.text i) (h.symbols i b);
  distinct = λ i j b c e f. h.distinct i j b c f e;
  sooner = λ i b v a. h.sooner i b v (apart_other two one (sym k) v a);
}

module _ (one two : Rule) where
  alike : pair_number one two ≡ none → one.k ≡ two.k
  alike e = ((passed one two).0 e).2

  searched_other : Searched one two → Searched two one
  searched_other h = (number_other one two h.0, λ m. h.1 (many_other two one (sym (alike h.0)) m))

  due_other : WellFormed one → WellFormed two → (a : Comparison) → Due one two a → Due two one (exchanged a)
  due_other good fine (apart which w) (s, h) =
      let k = alike s.0 in (
        searched_other s,
        record {
          symbols = text_other k w h.symbols;
          by = only_other one two which w h.by;
          no_sooner = λ v a. h.no_sooner v (apart_other two one (sym k) v a);
        },
      )
  due_other good fine same (s, h) =
      let k = alike s.0 in
      (searched_other s, λ w t. let e = h w (text_other (sym k) w t) in (e.1, e.0))
  due_other good fine (refused x) h =
      let passes : rule_number one ≡ none = ((check.claims).passes one).1 good in
      let passes-too : rule_number two ≡ none = ((check.claims).passes two).1 fine in
      ⊎_elim
      (λ e.
      ⊎_elim
      (λ f. none-some passes f)
      (λ f.
      ⊎_elim
      (λ g. none-some passes-too g)
      (λ g. inl ((from_where two one x).1 (inr (passes-too, inr (passes, g.1, λ z. g.2 (sym z))))))
      f.1)
      ((from_where one two x).0 e))
      (λ e. inr (number_other one two e.0, many_other one two (alike e.0) e.1, e.2))
      h

  pub symmetric : WellFormed one → WellFormed two → compare_of two one ≡ exchanged (compare_of one two)
  symmetric good fine =
      (exactly two one (exchanged (compare_of one two))).1
      (due_other good fine (compare_of one two) ((exactly one two (compare_of one two)).0 refl))

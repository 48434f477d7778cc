-- All that is promised of merging two values: what is answered goes by the number, and where there
-- is none the laws of the merged rule hold of the value. Assumes nothing.
use mathlib.Core.Path.{◌≡◌, refl, sym, ap, ◌∙◌, subst}
use mathlib.Core.Logic.Iff
use mathlib.Core.Logic.{◌↔◌}
use mathlib.Core.Option.{Option, none, some}
use Prim.Native.Nat.{ℕ, ◌+◌}
use Rattle.base.specs.Conditions.{NoneHolds, FirstHolds}
use Rattle.base.proofs.Conditions.{none_law, first_law}
use Rattle.base.proofs.Lists.{length_list_from}
use Rattle.automaton.specs.declared.Rule.{Rule}
use Rattle.automaton.specs.Automaton.{Automaton, Accepts}
use Rattle.automaton.specs.Rules.{target_mask, automaton_of}
use Rattle.automaton.proofs.Values.{table_law}
use Rattle.rulecheck.specs.Checking.{rule_number}
use Rattle.rulecheck.proofs.Laws.{passes}
use Rattle.ruleformat.specs.Claims.{AllZero}
use Rattle.products.specs.Products.{Moving, together, alone, pair_of, product, sum}
use Rattle.products.specs.Words.{InPairs, SideBySide}
use Rattle.products.proofs.Words.{in_pairs, side_by_side}
use Rattle.merging.specs.declared.Way.{Way}
use Rattle.merging.specs.declared.Way.TheVariants.{Both, Either, Interleaving}
use Rattle.merging.specs.Languages.{merged_by, Merges, MadeBy, Same}
use Rattle.merging.specs.Merged.{states_of, targets_of, cell_in, merged_of}
use Rattle.merging.specs.Merging.{merge_conditions, merge_number, merging_by, merge_of}
use Rattle.merging.specs.Claims.{Mergeable, MergeLaw}
use Rattle.merging.proofs.Conditions.{refused_exactly}
use Rattle.merging.proofs.Only.{one_value}
use Rattle.merging.proofs.Languages.{well_formed, automaton_law, language}

-- ---- the words hold of every automaton with the same states, arcs and marks
module _ (a b : Automaton) (same : a.k ≡ b.k) (c : Automaton) where
  paired : (way : Moving) → Same c (product way a b) → InPairs way a b c
  paired way so =
      let w = in_pairs a b same way in
      record {
        states = so.states;
        symbols = (so.symbols, so.symbols ∙ same);
        pair = λ q1 q2 l m. rw so.states (w.pair q1 q2 l m);
        every = λ q l. w.every q (rw so.states at l);
        initial = λ q1 q2 l. Iff.trans (so.initials (pair_of b.n q1 q2)) (w.initial q1 q2 l);
        final = λ q1 q2 l. Iff.trans (so.finals (pair_of b.n q1 q2)) (w.final q1 q2 l);
        arc = λ q1 q2 s p1 p2 l1 l2 m1 m2.
            Iff.trans (so.arcs (pair_of b.n q1 q2) s (pair_of b.n p1 p2)) (w.arc q1 q2 s p1 p2 l1 l2 m1 m2);
      }

  beside : Same c (sum a b) → SideBySide a b c
  beside so =
      let w = side_by_side a b same in
      record {
        states = so.states;
        symbols = (so.symbols, so.symbols ∙ same);
        initial_first = λ q l. Iff.trans (so.initials q) (w.initial_first q l);
        initial_second = λ q. Iff.trans (so.initials (a.n + q)) (w.initial_second q);
        final_first = λ q l. Iff.trans (so.finals q) (w.final_first q l);
        final_second = λ q. Iff.trans (so.finals (a.n + q)) (w.final_second q);
        arc_first = λ q s p l. Iff.trans (so.arcs q s p) (w.arc_first q s p l);
        arc_second = λ q s p. Iff.trans (so.arcs (a.n + q) s (a.n + p)) (w.arc_second q s p);
        none_back = λ q s p l j. w.none_back q s p l ((so.arcs (a.n + q) s p).0 j);
      }

  made_by : (way : Way) → Same c (merged_by way a b) → MadeBy way a b c
  made_by Both so = paired together so
  made_by Either so = beside so
  made_by Interleaving so = paired alone so

-- ---- what is answered goes by the number
pub number_of : (o : Option ℕ) (r : Rule) → (merging_by o r).number ≡ o
number_of none r = refl
number_of (some x) r = refl

pub zeros_of : (o : Option ℕ) (r : Rule) (x : ℕ) → o ≡ some x → AllZero (merging_by o r).rule
zeros_of o r x e =
    subst (λ (p : Option ℕ). AllZero (merging_by p r).rule) (sym e) (refl, refl, refl, refl, refl)

pub rule_of_lem : (o : Option ℕ) (r : Rule) → o ≡ none → (merging_by o r).rule ≡ r
rule_of_lem o r e = ap (λ (p : Option ℕ). (merging_by p r).rule) e

module _ (way : Way) (one two : Rule) where
  abbrev number : Option ℕ
  number = merge_number way one two

  abbrev result : Rule
  result = merged_of way one two

  is : (merge_of way one two).number ≡ number
  is = number_of number result

  taken : number ≡ none → Mergeable way one two
  taken e = (refused_exactly way one two).taken.0 e

  given : (merge_of way one two).number ≡ none → number ≡ none
  given e = sym is ∙ e

  rule_is : (merge_of way one two).number ≡ none → (merge_of way one two).rule ≡ result
  rule_is e = rule_of_lem number result (given e)

  made : Mergeable way one two → MadeBy way (automaton_of one) (automaton_of two) (automaton_of result)
  made m = made_by (automaton_of one) (automaton_of two) m.same (automaton_of result) way (automaton_law way one two m)

  accepted_law : (number ≡ none) ↔ NoneHolds (merge_conditions way one two)
  unfolding merge_number
  accepted_law = none_law (merge_conditions way one two)

  refused_law : (x : ℕ) → (number ≡ some x) ↔ FirstHolds x (merge_conditions way one two)
  unfolding merge_number
  refused_law x = first_law x (merge_conditions way one two)

  pub merge_law : MergeLaw way one two
  merge_law = record {
    accepted = ((λ e. accepted_law.0 (given e)), λ h. is ∙ accepted_law.1 h);
    refused = λ x. ((λ e. (refused_law x).0 (sym is ∙ e)), λ h. is ∙ (refused_law x).1 h);
    zeros = λ x e. zeros_of number result x (sym is ∙ e);
    rule = rule_is;
    cell = λ e q s.
        ap (λ (r : Rule). target_mask r.targets q s) (rule_is e)
        ∙ table_law (states_of way one.n two.n)
        (targets_of way one.n two.n one.targets two.targets)
        q
        s
        (taken (given e)).fits;
    checked = λ e. ap rule_number (rule_is e) ∙ (passes result).1 (well_formed way one two (taken (given e)));
    made = λ e.
        subst
        (λ (r : Rule). MadeBy way (automaton_of one) (automaton_of two) (automaton_of r))
        (sym (rule_is e))
        (made (taken (given e)));
    only = λ e r long good so.
        one_value way (automaton_of one) (automaton_of two) r result good (well_formed way one two (taken (given e))) long
        (length_list_from 0 512 (cell_in way one.n two.n one.targets two.targets))
        so
        (made (taken (given e)))
        ∙ sym (rule_is e);
    language = λ e w.
        subst
        (λ (r : Rule). Accepts (automaton_of r) w ↔ Merges way (automaton_of one) (automaton_of two) w)
        (sym (rule_is e))
        (language way one two (taken (given e)) w);
  }

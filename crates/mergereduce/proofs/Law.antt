-- All that is promised of merging reduced rules. Assumes nothing.
use mathlib.Core.Path.{◌≡◌, refl, sym, ap, ◌∙◌, subst}
use mathlib.Core.Logic.Iff
use mathlib.Core.Logic.{◌↔◌, inl, inr, ⊎_elim}
use mathlib.Core.List.{List, ◌++◌}
use mathlib.Core.Option.{Option, none, some}
use Prim.Native.Nat.{ℕ, ◌≤◌}
use native.Mathlib.Nat.{mul-le-mul_left, mul-le-mul_right, le_trans}
use native.Mathlib.Omega.{arith}
use Rattle.base.specs.Conditions.{NoneHolds, FirstHolds}
use Rattle.base.proofs.Conditions.{none_law, first_law, or_else, first_append}
use Rattle.automaton.specs.declared.Rule.{Rule}
use Rattle.automaton.specs.Automaton.{Automaton, Accepts, Equivalent}
use Rattle.automaton.specs.Rules.{automaton_of, WellFormed}
use Rattle.rulecheck.specs.Checking.{rule_conditions, rule_number}
use Rattle.rulecheck.proofs.Laws.{passes}
use Rattle.calls.specs.Calls.{install_number}
use Rattle.merging.specs.declared.Way.{Way}
use Rattle.merging.specs.declared.Way.TheVariants.{Both, Either, Interleaving}
use Rattle.merging.specs.Languages.{merged_by, Merges}
use Rattle.merging.specs.Merged.{states_of, merged_of}
use Rattle.merging.specs.Merging.{merge_number}
use Rattle.merging.proofs.Conditions.{last, taken_exactly, of_a_rule, exactly_36, exactly_37, known}
use Rattle.merging.proofs.Law.{number_of, zeros_of, rule_of_lem}
use Rattle.merging.proofs.Claims as merging
use Rattle.merging.proofs.Sets.{set_law, set_below}
use Rattle.merging.proofs.Tables.{states_of_lem, symbols_of_lem, targets_law, steps_in}
use Rattle.merging.proofs.Languages.{by_way, initials_by, finals_by}
use Rattle.masks.proofs.Laws.{members_below}
use Rattle.masks.proofs.Turns.{rank_most}
use Rattle.reducing.specs.Reduced.{reduced_of}
use Rattle.reducing.specs.Reducing.{reducing_by, reduce_of}
use Rattle.reducing.specs.Claims.{Lean}
use Rattle.reducing.proofs.Law.{only_nine}
use Rattle.reducing.proofs.Claims as reduce
use Rattle.mergereduce.specs.MergeReduced.{reduced_by, reduced_or_own, pair_targets, initial_pairs, final_pairs, kept_pairs, trimmed_pairs, pair_count, last_conditions, merge_reduced_conditions, merge_reduced_number, merge_reduced_rule, merge_reduced_of}
use Rattle.mergereduce.specs.Claims.{MadeOf, InsteadLaw, PairsLaw, Mergeable, RefusedExactly, MergeReducedLaw}
use Rattle.mergereduce.proofs.Kept.{Masked, kept_few, kept_law}
use Rattle.mergereduce.proofs.Trim as trim
use Rattle.mergereduce.proofs.Only.{one_value}

-- ---- a rule reduced, or the rule itself
pub record Instead (r m : Rule) : Type 0 where
  pub good : WellFormed m
  pub symbols : m.k ≡ r.k
  pub fewer : m.n ≤ r.n
  pub language : Equivalent (automaton_of m) (automaton_of r)

pub instead : (r : Rule) → WellFormed r → Instead r (reduced_or_own r)
unfolding reduced_or_own
instead r good = of (install_number r) refl
  where
    of : (o : Option ℕ) → install_number r ≡ o → Instead r (reduced_by o (reduced_of r) r)
    of (some x) e = record { good = good; symbols = refl; fewer = omega arith; language = λ w. ((λ t. t), λ t. t) }
    of none e =
        let law = (reduce.claims).reducing r in
        let number : (reduce_of r).number ≡ none = law.number ∙ e in
        let is : (reduce_of r).rule ≡ reduced_of r = ap (λ (o : Option ℕ). (reducing_by o (reduced_of r)).rule) e in
        subst (Instead r) is (record {
          good = (passes (reduce_of r).rule).0 (law.checked number);
          symbols = law.symbols number;
          fewer = law.fewer number;
          language = law.language number;
        })

pub instead_law : (r : Rule) → InsteadLaw r
unfolding reduced_or_own
instead_law r = record {
  reduced = λ e. let f = sym (number r) ∙ e in ap (λ (o : Option ℕ). reduced_by o (reduced_of r) r) f ∙ sym (ap (λ (o : Option ℕ). (reducing_by o (reduced_of r)).rule) f);
  own = λ x e. ap (λ (o : Option ℕ). reduced_by o (reduced_of r) r) (sym (number r) ∙ e);
  nine = λ e x f. only_nine r e x (sym (number r) ∙ f);
}
  where
    number : (q : Rule) → (reduce_of q).number ≡ install_number q
    number q = ((reduce.claims).reducing q).number

-- ---- the way of two automata goes by their texts alone
same_way : (way : Way) (a b c d : Automaton) → Equivalent a c → Equivalent b d → (w : List ℕ) → Merges way a b w → Merges way c d w
same_way Both a b c d f g w t = ((f w).0 t.0, (g w).0 t.1)
same_way Either a b c d f g w t = ⊎_elim (λ x. inl ((f w).0 x)) (λ x. inr ((g w).0 x)) t
same_way Interleaving a b c d f g w t =
    record { u = t.u; v = t.v; first = (f t.u).0 t.first; second = (g t.v).0 t.second; interleaves = t.interleaves }

turned : (a b : Automaton) → Equivalent a b → Equivalent b a
turned a b f w = ((f w).1, (f w).0)

-- ---- the pairs of two well-formed rules with the same symbols
module _ (way : Way) (one two : Rule) (good1 : WellFormed one) (good2 : WellFormed two) (same : one.k ≡ two.k) where
  abbrev made : Automaton
  made = merged_by way (automaton_of one) (automaton_of two)

  masked : Masked made (states_of way one.n two.n) (initial_pairs way one two) (final_pairs way one two) (pair_targets way one two)
  masked = record {
    states = states_of_lem way one two;
    symbols = omega (arith, symbols_of_lem way one two, good1.symbols);
    initial = λ q.
        Iff.trans
        (set_law one.n two.n one.initials two.initials good1.states.1 good1.initials_below good2.initials_below way q)
        (initials_by way (automaton_of one) (automaton_of two) q);
    final = λ q.
        Iff.trans
        (set_law one.n two.n one.finals two.finals good1.states.1 good1.finals_below good2.finals_below way q)
        (finals_by way (automaton_of one) (automaton_of two) q);
    initial_below = λ q e.
        members_below (states_of way one.n two.n) (initial_pairs way one two) q
        (set_below one.n two.n one.initials two.initials good1.states.1 good1.initials_below good2.initials_below way)
        e;
    final_below = λ q e.
        members_below (states_of way one.n two.n) (final_pairs way one two) q
        (set_below one.n two.n one.finals two.finals good1.states.1 good1.finals_below good2.finals_below way)
        e;
    arc = λ q s p l. (
      (λ e.
          let t = (targets_law one two good1 good2 same way q s p l).0 e in
          let c = steps_in one two good1 good2 same way q s p l t in
          record {
            source = rw (states_of_lem way one two) l;
            symbol = rw (symbols_of_lem way one two) c.0;
            target = rw (states_of_lem way one two) c.1;
            there = t;
          }),
      λ j. (targets_law one two good1 good2 same way q s p l).1 j.there,
    );
  }

  module _ (fits : pair_count way one two ≤ 32) where
    trimmed_good : WellFormed (trimmed_pairs way one two)
    trimmed_good =
        trim.well_formed made (states_of way one.n two.n) (initial_pairs way one two) (final_pairs way one two) (pair_targets way one two)
        masked one.k (symbols_of_lem way one two) good1.symbols.0 fits

    trimmed_language : (w : List ℕ) → Accepts (automaton_of (trimmed_pairs way one two)) w ↔ Merges way (automaton_of one) (automaton_of two) w
    trimmed_language w =
        Iff.trans
        (trim.language made (states_of way one.n two.n) (initial_pairs way one two) (final_pairs way one two) (pair_targets way one two)
        masked one.k (symbols_of_lem way one two) good1.symbols.0 fits w)
        (by_way (automaton_of one) (automaton_of two) same way w)

    trimmed_made : MadeOf made one.k (pair_count way one two) (trimmed_pairs way one two)
    trimmed_made =
        trim.made made (states_of way one.n two.n) (initial_pairs way one two) (final_pairs way one two) (pair_targets way one two)
        masked one.k (symbols_of_lem way one two) good1.symbols.0 fits

  pub pairs_law : PairsLaw way one two
  pairs_law =
      let n = states_of way one.n two.n in
      let i = initial_pairs way one two in
      let f = final_pairs way one two in record {
        kept = kept_law made n i f (pair_targets way one two) masked;
        below = kept_few made n i f (pair_targets way one two) masked;
        number = trim.in_order made n i f (pair_targets way one two) masked;
        made = trimmed_made;
        only = λ fits count t long good so.
            one_value made one.k count (pair_count way one two) t (trimmed_pairs way one two) good (trimmed_good fits) long
            (trim.cells made n i f (pair_targets way one two) masked one.k (symbols_of_lem way one two) good1.symbols.0 fits)
            so
            (trimmed_made fits);
      }

-- ---- more states make more pairs
more_pairs : (way : Way) (n1 n2 m1 m2 : ℕ) → n1 ≤ m1 → n2 ≤ m2 → states_of way n1 n2 ≤ states_of way m1 m2
more_pairs Both n1 n2 m1 m2 h i = le_trans (mul-le-mul_left n1 i) (mul-le-mul_right m2 h)
more_pairs Either n1 n2 m1 m2 h i = omega arith
more_pairs Interleaving n1 n2 m1 m2 h i = le_trans (mul-le-mul_left n1 i) (mul-le-mul_right m2 h)

-- ---- the number
module _ (way : Way) (one two : Rule) where
  abbrev pub first : Rule
  first = reduced_or_own one

  abbrev pub second : Rule
  second = reduced_or_own two

  abbrev pub count : ℕ
  count = pair_count way first second

  pub number_law : merge_reduced_number way one two ≡ or_else (rule_number one) (or_else (rule_number two) (last one.k two.k count))
  unfolding merge_reduced_number
  number_law =
      first_append (rule_conditions one) (rule_conditions two ++ last_conditions way one two)
      ∙ ap (or_else (rule_number one)) (first_append (rule_conditions two) (last_conditions way one two))

  is : (merge_reduced_of way one two).number ≡ merge_reduced_number way one two
  is = number_of (merge_reduced_number way one two) (merge_reduced_rule way one two)

  pub refused_exactly : RefusedExactly way one two
  refused_exactly =
      let number = (merge_reduced_of way one two).number in
      let law = is ∙ number_law in record {
        taken = (
          (λ z.
              let m = (taken_exactly number one two count law).0 z in
              record { first = m.0; second = m.1; same = m.2; fits = m.3 }),
          λ m. (taken_exactly number one two count law).1 (m.first, m.second, m.same, m.fits),
        );
        of_a_rule = of_a_rule number one two count law;
        number_36 = exactly_36 number one two count law;
        number_37 = exactly_37 number one two count law;
        no_other = known number one two count law;
      }

  taken : (merge_reduced_of way one two).number ≡ none → Mergeable way one two
  taken = refused_exactly.taken.0

  -- nothing that merging takes is refused
  no_less : merge_number way one two ≡ none → (merge_reduced_of way one two).number ≡ none
  no_less e =
      let m = ((merging.claims).refused way one two).taken.0 e in
      let i = instead one m.first in
      let j = instead two m.second in
      let few = rank_most (kept_pairs way first second) (states_of way first.n second.n) in
      let more = more_pairs way first.n second.n one.n two.n i.fewer j.fewer in
      let small : count ≤ 32 = omega (arith, few, more, m.fits) in
      refused_exactly.taken.1 (record { first = m.first; second = m.second; same = m.same; fits = small })

  module _ (ok : Mergeable way one two) where
    i1 : Instead one first
    i1 = instead one ok.first

    i2 : Instead two second
    i2 = instead two ok.second

    together : first.k ≡ second.k
    together = i1.symbols ∙ ok.same ∙ sym i2.symbols

    good_pairs : WellFormed (trimmed_pairs way first second)
    good_pairs = trimmed_good way first second i1.good i2.good together ok.fits

    made_symbols : (merge_reduced_rule way one two).k ≡ one.k
    made_symbols = (instead (trimmed_pairs way first second) good_pairs).symbols ∙ i1.symbols

    result : Instead (trimmed_pairs way first second) (merge_reduced_rule way one two)
    result = instead (trimmed_pairs way first second) good_pairs

    made_good : WellFormed (merge_reduced_rule way one two)
    made_good = result.good

    made_language : (w : List ℕ) → Accepts (automaton_of (merge_reduced_rule way one two)) w ↔ Merges way (automaton_of one) (automaton_of two) w
    made_language w =
        Iff.trans (result.language w)
        (Iff.trans (trimmed_language way first second i1.good i2.good together ok.fits w) (
          same_way way (automaton_of first) (automaton_of second) (automaton_of one) (automaton_of two) i1.language i2.language w,
          same_way way (automaton_of one) (automaton_of two) (automaton_of first) (automaton_of second)
              (turned (automaton_of first) (automaton_of one) i1.language)
              (turned (automaton_of second) (automaton_of two) i2.language)
              w,
        ))

    made_lean : (reduce_of (trimmed_pairs way first second)).number ≡ none → (w : List ℕ)
        → Accepts (automaton_of (merge_reduced_rule way one two)) w → Lean (merge_reduced_rule way one two)
    made_lean e w t =
        let pairs = trimmed_pairs way first second in
        subst Lean (sym ((instead_law pairs).reduced e)) (((reduce.claims).reducing pairs).lean e w ((result.language w).0 t))

  rule_is : (merge_reduced_of way one two).number ≡ none → (merge_reduced_of way one two).rule ≡ merge_reduced_rule way one two
  rule_is e = rule_of_lem (merge_reduced_number way one two) (merge_reduced_rule way one two) (sym is ∙ e)

  accepted_law : (merge_reduced_number way one two ≡ none) ↔ NoneHolds (merge_reduced_conditions way one two)
  unfolding merge_reduced_number
  accepted_law = none_law (merge_reduced_conditions way one two)

  refused_law : (x : ℕ) → (merge_reduced_number way one two ≡ some x) ↔ FirstHolds x (merge_reduced_conditions way one two)
  unfolding merge_reduced_number
  refused_law x = first_law x (merge_reduced_conditions way one two)

  pub merge_reduced_law : MergeReducedLaw way one two
  merge_reduced_law = record {
    accepted = ((λ e. accepted_law.0 (sym is ∙ e)), λ h. is ∙ accepted_law.1 h);
    refused = λ x. ((λ e. (refused_law x).0 (sym is ∙ e)), λ h. is ∙ (refused_law x).1 h);
    zeros = λ x e. zeros_of (merge_reduced_number way one two) (merge_reduced_rule way one two) x (sym is ∙ e);
    rule = rule_is;
    rule_of_pairs = λ e. (passes (trimmed_pairs way first second)).1 (good_pairs (taken e));
    checked = λ e. ap rule_number (rule_is e) ∙ (passes (merge_reduced_rule way one two)).1 (made_good (taken e));
    pairs = λ e f k.
        let x = instead one ((passes one).0 e) in
        let y = instead two ((passes two).0 f) in
        pairs_law way first second x.good y.good (x.symbols ∙ k ∙ sym y.symbols);
    symbols = λ e. ap (λ (r : Rule). r.k) (rule_is e) ∙ made_symbols (taken e);
    lean = λ e f w t.
        subst Lean (sym (rule_is e))
        (made_lean (taken e) f w (subst (λ (r : Rule). Accepts (automaton_of r) w) (rule_is e) t));
    language = λ e w.
        subst (λ (r : Rule). Accepts (automaton_of r) w ↔ Merges way (automaton_of one) (automaton_of two) w) (sym (rule_is e))
        (made_language (taken e) w);
    no_less = λ e. no_less (sym (number_of (merge_number way one two) (merged_of way one two)) ∙ e);
  }

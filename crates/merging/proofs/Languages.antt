-- The merged rule is well formed, its automaton is the two automata made one, and so it accepts
-- what its way is to accept. Assumes two well-formed rules with the same k, and that the result has
-- at most 32 states.
use mathlib.Core.Path.{◌≡◌, sym}
use mathlib.Core.Logic.Iff
use mathlib.Core.Logic.{◌↔◌, ⊎_elim}
use mathlib.Core.List.{List}
use Prim.Native.Nat.{ℕ}
use native.Mathlib.Omega.{arith}
use Rattle.masks.specs.Masks.{◌∈◌}
use Rattle.masks.proofs.Laws.{below_of, empty_mask}
use Rattle.automaton.specs.declared.Rule.{Rule}
use Rattle.automaton.specs.Automaton.{Automaton, Arc, Accepts}
use Rattle.automaton.specs.Rules.{target_mask, automaton_of, WellFormed}
use Rattle.automaton.proofs.Laws.{accepts_map}
use Rattle.products.proofs.Pairs.{both_law, interleaving_law}
use Rattle.products.proofs.Sums.{either_law}
use Rattle.merging.specs.declared.Way.{Way}
use Rattle.merging.specs.declared.Way.TheVariants.{Both, Either, Interleaving}
use Rattle.merging.specs.Languages.{merged_by, Merges, Same}
use Rattle.merging.specs.Merged.{states_of, merged_of}
use Rattle.merging.specs.Claims.{Mergeable}
use Rattle.merging.proofs.Sets.{Marked, set_law, set_below, some_state}
use Rattle.merging.proofs.Tables.{states_of_lem, symbols_of_lem, to_mask, of_mask}

-- ---- on automata
same_texts : (a b : Automaton) → Same a b → (w : List ℕ) → Accepts a w → Accepts b w
same_texts a b so w t =
    accepts_map a b (λ q l. rw so.states at l) (λ q s p. (so.arcs q s p).0) (λ q. (so.initials q).0) (λ q. (so.finals q).0) w t

turned : {a b : Automaton} → Same a b → Same b a
turned so = record {
  states = sym so.states;
  symbols = sym so.symbols;
  arcs = λ q s p. ((so.arcs q s p).1, (so.arcs q s p).0);
  initials = λ q. ((so.initials q).1, (so.initials q).0);
  finals = λ q. ((so.finals q).1, (so.finals q).0);
}

pub by_way : (a b : Automaton) → a.k ≡ b.k → (way : Way) (w : List ℕ) → Accepts (merged_by way a b) w ↔ Merges way a b w
by_way a b same Both w = both_law a b same w
by_way a b same Either w = either_law a b same w
by_way a b same Interleaving w = interleaving_law a b same w

pub initials_by : (way : Way) (a b : Automaton) (q : ℕ)
    → Marked way a.n b.n a.Initial b.Initial q ↔ (merged_by way a b).Initial q
initials_by Both a b q = (λ x. x, λ x. x)
initials_by Either a b q = (λ x. x, λ x. x)
initials_by Interleaving a b q = (λ x. x, λ x. x)

pub finals_by : (way : Way) (a b : Automaton) (q : ℕ)
    → Marked way a.n b.n a.Final b.Final q ↔ (merged_by way a b).Final q
finals_by Both a b q = (λ x. x, λ x. x)
finals_by Either a b q = (λ x. x, λ x. x)
finals_by Interleaving a b q = (λ x. x, λ x. x)

-- ---- on rules
module _ (way : Way) (one two : Rule) (m : Mergeable way one two) where
  abbrev result : Rule
  result = merged_of way one two

  abbrev made : Automaton
  made = merged_by way (automaton_of one) (automaton_of two)

  arcs_out : (q s p : ℕ) → p ∈ target_mask result.targets q s → Arc made q s p
  arcs_out = of_mask one two m.first m.second m.same way m.fits

  pub well_formed : WellFormed result
  well_formed = record {
    states = (some_state way one.n two.n m.first.states.0 m.second.states.0, m.fits);
    symbols = m.first.symbols;
    initials_below =
        set_below one.n two.n one.initials two.initials m.first.states.1 m.first.initials_below m.second.initials_below way;
    finals_below =
        set_below one.n two.n one.finals two.finals m.first.states.1 m.first.finals_below m.second.finals_below way;
    targets_below = λ q s l.
        below_of (states_of way one.n two.n) (target_mask result.targets q s)
        (λ p e. rw (states_of_lem way one two) at (arcs_out q s p e).target);
    zero_outside = λ q s l o.
        empty_mask (target_mask result.targets q s)
        (λ p e.
        let j = arcs_out q s p e in
        ⊎_elim
        (λ h. omega (arith, h, j.source, states_of_lem way one two))
        (λ h. omega (arith, h, j.symbol, symbols_of_lem way one two))
        o);
  }

  pub automaton_law : Same (automaton_of result) made
  automaton_law = record {
    states = sym (states_of_lem way one two);
    symbols = sym (symbols_of_lem way one two);
    arcs = λ q s p. (
      (λ j. arcs_out q s p j.there),
      λ j. record {
        source = rw (states_of_lem way one two) at j.source;
        symbol = rw (symbols_of_lem way one two) at j.symbol;
        target = rw (states_of_lem way one two) at j.target;
        there = to_mask one two m.first m.second m.same way m.fits q s p j;
      },
    );
    initials = λ q.
        Iff.trans
        (set_law one.n two.n one.initials two.initials m.first.states.1 m.first.initials_below m.second.initials_below way q)
        (initials_by way (automaton_of one) (automaton_of two) q);
    finals = λ q.
        Iff.trans
        (set_law one.n two.n one.finals two.finals m.first.states.1 m.first.finals_below m.second.finals_below way q)
        (finals_by way (automaton_of one) (automaton_of two) q);
  }

  pub language : (w : List ℕ) → Accepts (automaton_of result) w ↔ Merges way (automaton_of one) (automaton_of two) w
  language w =
      Iff.trans
      (same_texts (automaton_of result) made automaton_law w, same_texts made (automaton_of result) (turned automaton_law) w)
      (by_way (automaton_of one) (automaton_of two) m.same way w)

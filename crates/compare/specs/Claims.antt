-- What is claimed of the answer, for the rules compared by hand and for every two rules;
-- proofs/Claims.antt proves it.
--
--   RefusedExactly one two    which number the two are refused with, condition by condition
use Rattle.std.specs.Prelude.{◌≡◌, ◌↔◌, ◌⊎◌, List, ℕ, ◌≤◌, length}
use Rattle.std.proofs.Math.Option.{none, some}
use Rattle.automaton.specs.declared.Rule.{Rule}
use Rattle.automaton.specs.Automaton.{Text, Equivalent}
use Rattle.automaton.specs.Rules.{automaton_of, WellFormed}
use Rattle.rulecheck.specs.Checking.{rule_number}
use Rattle.searches.specs.Texts.{longest_text}
use Rattle.compare.specs.declared.Which.{Which}
use Rattle.compare.specs.Compared.{Only, FirstApart, Same, ManyPairs, pair_number, Searched, Comparison, apart, same, refused, exchanged, Due}
use Rattle.compare.specs.Values.{Outcome, Carries, outcome_of, comparison_in}
use Rattle.compare.specs.Search.{compare_of}
use Rattle.compare.specs.Worked.{pairs, Answered}

pub record RefusedExactly (one two : Rule) : Type 0 where
  -- 3, 4, 6 and 8 as installing gives them: the first rule's, or the second's where it has none
  pub checked : (x : ℕ) → x ≤ 8 → (compare_of one two ≡ refused x)
      ↔ ((rule_number one ≡ some x) ⊎ (WellFormed one × (rule_number two ≡ some x)))
  -- two checked rules with different k
  pub number_36 : (compare_of one two ≡ refused 36) ↔ (WellFormed one × WellFormed two × (one.k ≡ two.k → ⊥))
  -- with the same k, that reach too many pairs before they differ
  pub number_45 : (compare_of one two ≡ refused 45)
      ↔ (WellFormed one × WellFormed two × (one.k ≡ two.k) × ManyPairs one two)
  -- no other number
  pub no_other : (x : ℕ) → compare_of one two ≡ refused x → (x ≤ 8) ⊎ (x ≡ 36) ⊎ (x ≡ 45)

pub record Claims : Type 0 where
  -- rules compared by hand
  pub answered : Answered pairs
  -- it is the answer that is due, and no other is
  pub exactly : (one two : Rule) (a : Comparison) → (compare_of one two ≡ a) ↔ Due one two a
  pub numbers : (one two : Rule) → RefusedExactly one two
  -- no number comes before the search exactly where both rules are checked and have the same k
  pub passed : (one two : Rule) → (pair_number one two ≡ none) ↔ (WellFormed one × WellFormed two × (one.k ≡ two.k))
  -- the two are not refused exactly where they are searched
  pub searched : (one two : Rule) → ((x : ℕ) → compare_of one two ≡ refused x → ⊥) ↔ Searched one two
  -- and then either the first text that tells them apart is answered, or the same
  pub either : (one two : Rule) → Searched one two
      → ((which : Which) × (w : List ℕ) × FirstApart one two which w × (compare_of one two ≡ apart which w))
      ⊎ (Same one two × (compare_of one two ≡ same))
  -- the same is answered exactly when the two are not refused and their automata accept the same
  -- texts, of all texts
  pub alike : (one two : Rule)
      → (compare_of one two ≡ same) ↔ (((x : ℕ) → compare_of one two ≡ refused x → ⊥) × Equivalent (automaton_of one) (automaton_of two))
  -- of a text that is given just the named rule accepts it
  pub named : (one two : Rule) (which : Which) (w : List ℕ) → compare_of one two ≡ apart which w → Text one.k w × Only which one two w
  -- two checked rules have the same answer the other way round, with their names exchanged
  pub symmetric : (one two : Rule) → WellFormed one → WellFormed two → compare_of two one ≡ exchanged (compare_of one two)
  -- a text has at most 511 symbols
  pub short : (one two : Rule) (which : Which) (w : List ℕ) → compare_of one two ≡ apart which w → length w ≤ longest_text
  -- a value is that of the answer exactly where it carries an answer that is due
  pub value : (one two : Rule) (o : Outcome)
      → (o ≡ outcome_of (compare_of one two)) ↔ (a : Comparison) × Due one two a × Carries a o
  -- and tells it
  pub told : (one two : Rule) → comparison_in (outcome_of (compare_of one two)) ≡ compare_of one two

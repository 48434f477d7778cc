-- Two rules compared, in the words of the request.
--
--   Only which one two w   of the two rules just this one accepts the text w
--   Apart one two w        exactly one of the two accepts the text w, of their symbols
--   FirstApart one two which w   w is such a text, this rule accepts it, and it comes before every
--                          other: it is the shortest, and among the shortest the first by symbols
--   Same one two           the two accept the same texts of their symbols
--   ManyPairs one two      too many pairs of sets are reached before the rules differ: 513 texts lead
--                          to pairs of which no two are the same, and none of these texts is later
--                          than any on which the two rules differ. The empty set counts like any
--                          other
--   pair_conditions ..     the first rule's conditions of R-3, then the second's, then 36: different
--                          k
--   pair_number one two    the number of the first that holds
--   Searched one two       none of them holds, and there are not too many pairs
--   Comparison             an answer: a rule with a text that it alone accepts, that the two accept
--                          the same, or a refusal with its number
--   of_rule which x y      what belongs to this rule: x to the first, and y to the second
--   exchanged a            the answer a with the rules' names exchanged
--   Due one two a          a is the answer that is due: the number of those conditions, then 45;
--                          else the first text that tells the two apart, or the same where none does
use Rattle.std.specs.Prelude.{◌≡◌, ◌↔◌, ◌⊎◌, not, List, [], ◌∷◌, ◌++◌, ℕ, ◌+◌, ◌<◌, eqb}
use Rattle.std.proofs.Math.Option.{Option, none, some}
use Rattle.base.specs.Conditions.{Condition, on, first_of}
use Rattle.limits.specs.Limits.{most_sets}
use Rattle.automaton.specs.declared.Rule.{Rule}
use Rattle.automaton.specs.Automaton.{Text, Accepts}
use Rattle.automaton.specs.Rules.{automaton_of}
use Rattle.rulecheck.specs.Checking.{rule_conditions}
use Rattle.numbering.specs.Texts.{NoLater}
use Rattle.samples.specs.Samples.{set_after}
use Rattle.compare.specs.declared.Which.{Which}
use Rattle.compare.specs.declared.Which.TheVariants.{First, Second}

abbrev pub Only : Which → Rule → Rule → List ℕ → Type 0
Only First one two w = Accepts (automaton_of one) w × (Accepts (automaton_of two) w → ⊥)
Only Second one two w = Accepts (automaton_of two) w × (Accepts (automaton_of one) w → ⊥)

module _ (one two : Rule) where
  pub record Apart (w : List ℕ) : Type 0 where
    pub symbols : Text one.k w
    pub by : Only First one two w ⊎ Only Second one two w

  pub record FirstApart (which : Which) (w : List ℕ) : Type 0 where
    pub symbols : Text one.k w
    pub by : Only which one two w
    pub no_sooner : (v : List ℕ) → Apart v → NoLater w v

  abbrev pub Same : Type 0
  Same = (w : List ℕ) → Text one.k w → Accepts (automaton_of one) w ↔ Accepts (automaton_of two) w

  pub record ManyPairs : Type 0 where
    pub text : ℕ → List ℕ
    pub symbols : (i : ℕ) → i < most_sets + 1 → Text one.k (text i)
    pub distinct : (i j : ℕ) → i < most_sets + 1 → j < most_sets + 1
        → set_after one (text i) ≡ set_after one (text j) → set_after two (text i) ≡ set_after two (text j) → i ≡ j
    pub sooner : (i : ℕ) → i < most_sets + 1 → (v : List ℕ) → Apart v → NoLater (text i) v

  abbrev pub pair_conditions : List Condition
  pair_conditions = rule_conditions one ++ (rule_conditions two ++ (on 36 (not (eqb one.k two.k)) ∷ []))

  abbrev pub pair_number : Option ℕ
  pair_number = first_of pair_conditions

  abbrev pub Searched : Type 0
  Searched = (pair_number ≡ none) × (ManyPairs → ⊥)

pub data Comparison : Type 0 where
  apart : Which → List ℕ → Comparison
  same : Comparison
  refused : ℕ → Comparison

abbrev pub other_rule : Which → Which
other_rule First = Second
other_rule Second = First

abbrev pub of_rule : {A : Type 0} → Which → A → A → A
of_rule First x y = x
of_rule Second x y = y

abbrev pub exchanged : Comparison → Comparison
exchanged (apart which w) = apart (other_rule which) w
exchanged same = same
exchanged (refused x) = refused x

abbrev pub Due : Rule → Rule → Comparison → Type 0
Due one two (apart which w) = Searched one two × FirstApart one two which w
Due one two same = Searched one two × Same one two
Due one two (refused x) = (pair_number one two ≡ some x) ⊎ ((pair_number one two ≡ none) × ManyPairs one two × (x ≡ 45))

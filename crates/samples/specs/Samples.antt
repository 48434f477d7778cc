-- The sample trace of a rule (document 02, R-9), in the words of the request.
--
--   Judged r wish w   the rule accepts the text w; or it does not
--   Wished r wish w   w is a text of the rule's symbols that is judged as it is wished
--   First r wish w    w is wished and comes before every other wished text: it is the shortest,
--                     and among the shortest the first by symbols
--   set_after r w     the set of states to which the text w leads from the set of initial states
--   ManySets r        more than 512 sets are reached: 513 texts lead to sets of which no two are
--                     the same. The empty set counts like any other
--   Searched r        the rule is checked, and at most 512 sets are reached
--   Sample            an answer: a text, that there is none, or a refusal with its number
--   Due r wish a      a is the answer that is due: refused as installing would refuse the rule,
--                     then with 35; else the first wished text, or none where no text is wished
use Rattle.std.specs.Prelude.{◌≡◌, ◌⊎◌, List, ℕ, ◌+◌, ◌<◌}
use Rattle.std.proofs.Math.Option.{none, some}
use Rattle.limits.specs.Limits.{most_sets}
use Rattle.automaton.specs.declared.Rule.{Rule}
use Rattle.automaton.specs.Automaton.{Text, Accepts}
use Rattle.automaton.specs.Rules.{automaton_of}
use Rattle.automaton.specs.Successor.{after}
use Rattle.rulecheck.specs.Checking.{rule_number}
use Rattle.numbering.specs.Texts.{NoLater}
use Rattle.samples.specs.declared.Wish.{Wish}
use Rattle.samples.specs.declared.Wish.TheVariants.{Accepted, Rejected}

abbrev pub Judged : Rule → Wish → List ℕ → Type 0
Judged r Accepted w = Accepts (automaton_of r) w
Judged r Rejected w = Accepts (automaton_of r) w → ⊥

pub record Wished (r : Rule) (wish : Wish) (w : List ℕ) : Type 0 where
  pub symbols : Text r.k w
  pub judged : Judged r wish w

pub record First (r : Rule) (wish : Wish) (w : List ℕ) : Type 0 where
  pub wished : Wished r wish w
  pub no_sooner : (v : List ℕ) → Wished r wish v → NoLater w v

module _ (r : Rule) where
  -- whose members are the states that runs over w from an initial state end in: `after_law` of
  -- automaton's claims
  abbrev pub set_after : List ℕ → ℕ
  set_after w = after r.targets r.initials w

  pub record ManySets : Type 0 where
    pub text : ℕ → List ℕ
    pub symbols : (i : ℕ) → i < most_sets + 1 → Text r.k (text i)
    pub distinct : (i j : ℕ) → i < most_sets + 1 → j < most_sets + 1 → set_after (text i) ≡ set_after (text j) → i ≡ j

  abbrev pub Searched : Type 0
  Searched = (rule_number r ≡ none) × (ManySets → ⊥)

pub data Sample : Type 0 where
  text : List ℕ → Sample
  nothing : Sample
  refused : ℕ → Sample

abbrev pub Due : Rule → Wish → Sample → Type 0
Due r wish (text w) = Searched r × First r wish w
Due r wish nothing = Searched r × ((w : List ℕ) → Wished r wish w → ⊥)
Due r wish (refused x) = (rule_number r ≡ some x) ⊎ ((rule_number r ≡ none) × ManySets r × (x ≡ 35))

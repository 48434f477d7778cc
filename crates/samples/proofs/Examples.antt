-- The samples of specs/Worked.antt are what stands there, by computation: of at most 512 sets the
-- table is whole. Assumes nothing.
use mathlib.Core.Path.{◌≡◌, refl, ap, ◌∙◌}
use mathlib.Core.Bool.{false, cond}
use mathlib.Core.List.{List, [], ◌∷◌}
use mathlib.Core.Option.{Option, none, some}
use Prim.Native.Nat.{ℕ}
use lib.Dec.{ltb}
use lib.ListN.{length}
use borrow.Author.Tests.{ltb-false}
use Rattle.base.specs.Conditions.{any_below}
use Rattle.base.specs.Lists.{list_from}
use Rattle.base.proofs.Options.{none-some}
use Rattle.base.proofs.Tests.{by_test}
use Rattle.masks.specs.Masks.{union}
use Rattle.automaton.specs.declared.Rule.{Rule}
use Rattle.rulecheck.specs.Checking.{bad_targets, rule_number}
use Rattle.rulecheck.proofs.First.{checked_first, checked_then}
use Rattle.numbering.specs.Numbering.{index_of, numbered, expand_from, close_from, keys_up_to}
use Rattle.keys.specs.declared.Kind.TheVariants.{Sets}
use Rattle.keys.specs.Tables.{cells_of}
use Rattle.keys.proofs.Tables.{one_whole}
use Rattle.searches.specs.Search.{first_where, word_back, word_to}
use Rattle.samples.specs.declared.Wish.{Wish}
use Rattle.samples.specs.Samples.{Sample, text, nothing, refused}
use Rattle.samples.specs.Search.{set_walk, reached_sets, own_conditions, search_number, found_first, sample_by, sample_of}
use Rattle.samples.specs.Worked.{Case, case, samples, Answered}

module _ (r : Rule) (wish : Wish) where
  -- with at most 512 sets
  abbrev sampled : Sample
  sampled =
      cond (ltb (found_first r wish) (length (reached_sets r)))
      (text (word_to (cells_of (set_walk r) (reached_sets r)) (found_first r wish)))
      nothing

  abbrev by_number : Option ℕ → Option Sample
  by_number (some x) = some (refused x)
  by_number none = cond (ltb 512 (length (reached_sets r))) none (some sampled)

  by_search : (o : Option ℕ) → search_number r ≡ o → sample_of r wish ≡ sample_by o r wish
  unfolding sample_of
  by_search o e = ap (λ (x : Option ℕ). sample_by x r wish) e

  sampled_is : ltb 512 (length (reached_sets r)) ≡ false → rule_number r ≡ none → sample_of r wish ≡ sampled
  unfolding search_number
  sampled_is few pass =
      by_search none (checked_then r (own_conditions r) pass ∙ rw few)
      ∙ rw (one_whole Sets r.targets r.targets r.k r.initials (ltb-false 512 (length (reached_sets r)) few))

  refused_is : (x : ℕ) → rule_number r ≡ some x → sample_of r wish ≡ refused x
  unfolding search_number
  refused_is x e = by_search (some x) (checked_first r (own_conditions r) x e)

  computed : (o : Option ℕ) → rule_number r ≡ o → (a : Sample) → by_number o ≡ some a → sample_of r wish ≡ a
  computed (some x) e a is = refused_is x e ∙ let z : refused x ≡ a = cc in z
  computed none e a is =
      by_test (ltb 512 (length (reached_sets r)))
      (λ t. let z : none ≡ some a = rw t at is in none-some refl z)
      (λ t. let z : some sampled ≡ some a = rw t at is in sampled_is t e ∙ let y : sampled ≡ a = cc in y)

-- what the rules come to, and what stands beside them
abbrev given : List Case → List (Option Sample)
given [] = []
given (case r wish a ∷ cases) = by_number r wish (rule_number r) ∷ given cases

abbrev due : List Case → List (Option Sample)
due [] = []
due (case r wish a ∷ cases) = some a ∷ due cases

one_by_one : (cases : List Case) → given cases ≡ due cases → Answered cases
one_by_one [] e = tt
one_by_one (case r wish a ∷ cases) e =
    let here : by_number r wish (rule_number r) ≡ some a = cc in
    let rest : given cases ≡ due cases = cc in
    (computed r wish (rule_number r) refl a here, one_by_one cases rest)

pub answered : Answered samples
unfolding bad_targets any_below list_from union index_of numbered expand_from close_from keys_up_to first_where word_back
answered = one_by_one samples refl

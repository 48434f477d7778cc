-- The rules of specs/Worked.antt have the answers that stand there, by computation: of at most 512
-- pairs the table is whole. Assumes nothing.
use mathlib.Core.Path.{◌≡◌, refl, ◌∙◌}
use mathlib.Core.Bool.{false, cond}
use mathlib.Core.List.{List, [], ◌∷◌}
use mathlib.Core.Option.{Option, none, some}
use Prim.Native.Nat.{ℕ}
use lib.Dec.{ltb}
use lib.ListN.{length, get_or}
use borrow.Author.Tests.{ltb-false}
use Rattle.base.specs.Conditions.{any_below}
use Rattle.base.specs.Lists.{list_from}
use Rattle.base.proofs.Options.{none-some}
use Rattle.base.proofs.Tests.{by_test}
use Rattle.masks.specs.Masks.{union}
use Rattle.automaton.specs.declared.Rule.{Rule}
use Rattle.rulecheck.specs.Checking.{bad_targets}
use Rattle.numbering.specs.Numbering.{index_of, numbered, expand_from, close_from, keys_up_to}
use Rattle.keys.specs.declared.Kind.TheVariants.{Pairs}
use Rattle.keys.specs.Tables.{cells_of}
use Rattle.keys.proofs.Tables.{one_whole}
use Rattle.searches.specs.Search.{first_where, word_back, word_to}
use Rattle.compare.specs.Compared.{pair_number, Comparison, apart, same, refused}
use Rattle.compare.specs.Search.{which_of, pair_walk, first_pair, reached_pairs, first_pairs, found_first, told_apart, many_pairs, compare_of}
use Rattle.compare.specs.Worked.{Case, case, pairs, Answered}
use Rattle.compare.proofs.Answers.{by_number as by_number_lem, number-none, refused_first}

module _ (one two : Rule) where
  -- with at most 512 pairs
  abbrev compared : Comparison
  compared =
      cond (told_apart one two)
      (apart (which_of one.finals (get_or (first_pairs one two) (found_first one two) 0)) (word_to (cells_of (pair_walk one two) (reached_pairs one two)) (found_first one two)))
      same

  abbrev by_number : Option ℕ → Option Comparison
  by_number (some x) = some (refused x)
  by_number none = cond (ltb 512 (length (reached_pairs one two))) none (some compared)

  pub compared_is : ltb 512 (length (reached_pairs one two)) ≡ false → pair_number one two ≡ none → compare_of one two ≡ compared
  compared_is few pass =
      let not-many : many_pairs one two ≡ false = by_test (told_apart one two) (λ t. rw t) (λ t. rw t few) in
      by_number_lem one two none (number-none one two pass not-many)
      ∙ rw (one_whole Pairs one.targets two.targets one.k (first_pair one two) (ltb-false 512 (length (reached_pairs one two)) few))

  computed : (o : Option ℕ) → pair_number one two ≡ o → (a : Comparison) → by_number o ≡ some a → compare_of one two ≡ a
  computed (some x) e a is = refused_first one two x e ∙ let z : refused x ≡ a = cc in z
  computed none e a is =
      by_test (ltb 512 (length (reached_pairs one two)))
      (λ t. let z : none ≡ some a = rw t at is in none-some refl z)
      (λ t. let z : some compared ≡ some a = rw t at is in compared_is t e ∙ let y : compared ≡ a = cc in y)

-- what the rules come to, and what stands beside them
abbrev given : List Case → List (Option Comparison)
given [] = []
given (case one two a ∷ cases) = by_number one two (pair_number one two) ∷ given cases

abbrev due : List Case → List (Option Comparison)
due [] = []
due (case one two a ∷ cases) = some a ∷ due cases

one_by_one : (cases : List Case) → given cases ≡ due cases → Answered cases
one_by_one [] e = tt
one_by_one (case one two a ∷ cases) e =
    let here : by_number one two (pair_number one two) ≡ some a = cc in
    let rest : given cases ≡ due cases = cc in
    (computed one two (pair_number one two) refl a here, one_by_one cases rest)

pub answered : Answered pairs
unfolding bad_targets any_below list_from union index_of numbered expand_from close_from keys_up_to first_where word_back
answered = one_by_one pairs refl

-- The search for a text that tells two rules apart: over the first 512 pairs of sets that texts lead
-- to from the pair of the sets of initial states, each numbered when it is first found. The first
-- pair of which exactly one set has a final state has the text. Nothing here needs to be believed:
-- specs/Claims.antt says that it gives the answer that is due.
--
--   pair_walk, first_pair, reached_pairs, reached_table  the pairs in number order, and the table of
--                            what each leads to by each symbol
--   first_pairs one two      the first 512 pairs
--   found_first one two      the number of the first of them that tells the two apart; how many they
--                            are where none does
--   told_apart one two       some pair of the first 512 does
--   many_pairs one two       there are more, and none of the first 512 tells them apart
--   compare_number one two   the number with which the two are refused
--   differs f g m            exactly one set of the pair m has a final state, of f and of g
--   which_of f m             the first rule where the first set of the pair has one, else the second
--   compare_of one two       the answer
use Rattle.std.specs.Prelude.{Bool, false, cond, not, List, [], ◌∷◌, ◌++◌, ℕ, ltb, length, get_or, take}
use Rattle.std.proofs.Math.Option.{Option, none, some}
use Rattle.limits.specs.Limits.{most_sets}
use Rattle.base.specs.Conditions.{Condition, on, first_of}
use Rattle.masks.specs.Masks.{shares}
use Rattle.automaton.specs.declared.Rule.{Rule}
use Rattle.numbering.specs.Numbering.{Walk, keys_up_to}
use Rattle.keys.specs.declared.Kind.TheVariants.{Pairs}
use Rattle.keys.specs.Kinds.{pair_key, first_set, second_set, walk_by}
use Rattle.keys.specs.Tables.{cells_to}
use Rattle.searches.specs.Search.{first_where, word_to}
use Rattle.compare.specs.declared.Which.{Which}
use Rattle.compare.specs.declared.Which.TheVariants.{First, Second}
use Rattle.compare.specs.Compared.{pair_conditions, Comparison, apart, same, refused}

abbrev pub differs : ℕ → ℕ → ℕ → Bool
differs f g m = cond (shares (first_set m) f) (not (shares (second_set m) g)) (shares (second_set m) g)

abbrev pub which_of : ℕ → ℕ → Which
which_of f m = cond (shares (first_set m) f) First Second

module _ (one two : Rule) where
  abbrev pub pair_walk : Walk
  pair_walk = walk_by Pairs one.targets two.targets one.k

  abbrev pub first_pair : ℕ
  first_pair = pair_key one.initials two.initials

  abbrev pub reached_pairs : List ℕ
  reached_pairs = keys_up_to pair_walk (λ _. first_pair) 1

  abbrev pub reached_table : List ℕ
  reached_table = cells_to pair_walk reached_pairs

  -- ---- the pair that tells the two apart
  abbrev pub test : ℕ → Bool
  test = differs one.finals two.finals

  abbrev pub first_pairs : List ℕ
  first_pairs = take most_sets reached_pairs

  abbrev pub found_first : ℕ
  found_first = first_where test first_pairs

  abbrev pub told_apart : Bool
  told_apart = ltb found_first (length first_pairs)

  -- ---- refusals
  abbrev pub many_pairs : Bool
  many_pairs = cond told_apart false (ltb most_sets (length reached_pairs))

  abbrev pub own_conditions : List Condition
  own_conditions = on 45 many_pairs ∷ []

  unfoldable pub compare_number : Option ℕ
  compare_number = first_of (pair_conditions one two ++ own_conditions)

  -- ---- the answer
  abbrev pub compare_by : Option ℕ → Comparison
  compare_by none =
      cond told_apart (apart (which_of one.finals (get_or first_pairs found_first 0)) (word_to reached_table found_first)) same
  compare_by (some number) = refused number

  unfoldable pub compare_of : Comparison
  compare_of = compare_by compare_number

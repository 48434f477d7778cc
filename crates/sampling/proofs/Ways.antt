-- One lemma over plain variables for each way out of `meets`, `search_sets` and `find_sample`. Assumes
-- nothing.
--
--   not-not        a test that is denied twice
--   find_refused   the check refuses the rule
--   search-..      more than 512 sets are reached, a set meets the wish, or none does
use Rattle.std.proofs.Common.{Ok, Err, Some, None}
use mathlib.Core.Path.{◌≡◌, refl, sym, ap, ◌∙◌}
use mathlib.Core.Bool.{Bool, true, false, cond, not}
use mathlib.Core.Option.{none, some}
use Prim.Native.Nat.{ℕ, ◌≤◌, ◌<◌}
use native.Mathlib.Omega.{arith}
use lib.ListN.{length, take}
use borrow.Author.Tests.{lt-ltb, le-ltb}
use Rattle.base.specs.declared.Refusal.{Refusal}
use Rattle.base.specs.declared.Refusal.TheVariants.{TooManyReached}
use Rattle.base.specs.Answers.{refusal_number}
use Rattle.automaton.specs.declared.Rule.{Rule}
use Rattle.automaton.specs.Rules.{WellFormed}
use Rattle.rulecheck.specs.Checking.{rule_number}
use Rattle.rulecheck.proofs.First.{checked_first, checked_then}
use Rattle.rulecheck.proofs.Claims as check
use Rattle.keys.specs.declared.KeyTable.{KeyTable}
use Rattle.keys.specs.declared.Kind.TheVariants.{Sets}
use Rattle.keys.specs.Tables.{table_outcome, table_of}
use Rattle.searches.specs.declared.Spelled.{Spelled}
use Rattle.searches.specs.Search.{first_where, word_to}
use Rattle.searches.specs.mirror.Tables.{Tabled, Spells}
use Rattle.searches.proofs.Searched as searched
use Rattle.samples.specs.declared.Wish.{Wish}
use Rattle.samples.specs.Samples.{text, nothing}
use Rattle.samples.specs.Values.{sample_outcome, outcome_of}
use Rattle.samples.specs.Search.{reached_sets, reached_table, many_sets, own_conditions, search_number, meets, found_first, sample_of}
use Rattle.samples.proofs.Claims as samples

pub not-not : (b : Bool) → not (not b) ≡ b
not-not true = refl
not-not false = refl

-- ---- the rule is refused by its check
module _ (r : Rule) (wish : Wish) where
  by_number : (e : Refusal) → search_number r ≡ some (refusal_number e) → sample_outcome (Err e) ≡ outcome_of (sample_of r wish)
  by_number e is = sym (ap outcome_of (((samples.claims).refused_alike r wish (refusal_number e)).1 is))

  pub find_refused : (e : Refusal) → rule_number r ≡ some (refusal_number e) → sample_outcome (Err e) ≡ outcome_of (sample_of r wish)
  unfolding search_number
  find_refused e is = by_number e (checked_first r (own_conditions r) (refusal_number e) is)

  -- ---- the search
  module _ (good : WellFormed r) (t : KeyTable) (are : table_outcome t ≡ table_of Sets r.targets r.k r.initials) where
    number_is : search_number r ≡ cond (many_sets r) (some 35) none
    unfolding search_number
    number_is = checked_then r (own_conditions r) (((check.claims).passes r).1 good)

    pub search_over : t.count ≡ None → sample_outcome (Err TooManyReached) ≡ outcome_of (sample_of r wish)
    search_over e =
        by_number TooManyReached
        (number_is
        ∙ rw (lt-ltb 512 (length (reached_sets r)) (searched.over_many Sets r.targets r.targets r.k r.initials good.symbols.1 t are e)))

    module _ (c : ℕ) (e : t.count ≡ Some c) where
      few : many_sets r ≡ false
      few = le-ltb 512 (length (reached_sets r)) (searched.few Sets r.targets r.targets r.k r.initials good.symbols.1 t are c e)

      count-is : c ≡ length (reached_sets r)
      count-is = searched.count-is Sets r.targets r.targets r.k r.initials good.symbols.1 t are c e

      pub most : c ≤ 512
      most = searched.most Sets r.targets r.targets r.k r.initials good.symbols.1 t are c e

      next-is : t.next ≡ reached_table r
      next-is = searched.next-is Sets r.targets r.targets r.k r.initials good.symbols.1 t are

      pub tabled : (j : ℕ) → j < c → Tabled t.next r.k j
      tabled j b =
          searched.tabled Sets r.targets r.targets r.k r.initials good.symbols.1 t are j (omega (arith, count-is)) (omega (arith, most))

      module _ (j : ℕ) (first : j ≡ first_where (meets r.finals wish) (take c t.keys)) where
        first-is : j ≡ found_first r wish
        first-is =
            first
            ∙ ap (first_where (meets r.finals wish))
            (searched.keys_are Sets r.targets r.targets r.k r.initials good.symbols.1 t are c e)

        pub search_text : (s : Spelled) → j < c → Spells s (word_to t.next j) → sample_outcome (Ok (Some s)) ≡ outcome_of (sample_of r wish)
        unfolding sample_of
        search_text s b spelt =
            let d : found_first r wish < length (reached_sets r) = omega (arith, count-is, first-is) in
            let v : word_to t.next j ≡ word_to (reached_table r) (found_first r wish) = rw (next-is, first-is) in
            let f : text (word_to t.next j) ≡ sample_of r wish = rw (number_is, few, lt-ltb (found_first r wish) (length (reached_sets r)) d, v) in
            rw (spelt.long, spelt.are) (ap outcome_of f)

        pub search_none : c ≤ j → sample_outcome (Ok None) ≡ outcome_of (sample_of r wish)
        unfolding sample_of
        search_none b =
            let d : length (reached_sets r) ≤ found_first r wish = omega (arith, count-is, first-is) in
            let f : nothing ≡ sample_of r wish = rw (number_is, few, le-ltb (found_first r wish) (length (reached_sets r)) d) in
            ap outcome_of f

-- One lemma over plain variables for each way out of `differs`, `which_of`, `search_pairs` and
-- `compare`. Assumes nothing.
use Rattle.std.proofs.Common.{Ok, Err, Some, None}
use Rattle.std.specs.Option.{unwrap_or}
use mathlib.Core.Path.{◌≡◌, refl, sym, ap, ◌∙◌}
use mathlib.Core.Logic.{inl, inr}
use mathlib.Core.Bool.{Bool, true, false, cond, not}
use mathlib.Core.List.{List}
use mathlib.Core.Option.{none, some}
use Prim.Native.Nat.{ℕ, ◌≤◌, ◌<◌}
use native.Mathlib.Omega.{arith}
use lib.ListN.{length, get_or, take}
use lib.Seq.{get_or-take}
use borrow.Author.Tests.{lt-ltb, le-ltb}
use Rattle.base.specs.declared.Refusal.{Refusal}
use Rattle.base.specs.declared.Refusal.TheVariants.{OtherSymbols, TooManyPairs}
use Rattle.base.specs.Answers.{refusal_number}
use Rattle.automaton.specs.declared.Rule.{Rule}
use Rattle.automaton.specs.Rules.{WellFormed}
use Rattle.rulecheck.specs.Checking.{rule_number}
use Rattle.rulecheck.proofs.Claims.{claims}
use Rattle.keys.specs.declared.KeyTable.{KeyTable}
use Rattle.keys.specs.declared.Kind.TheVariants.{Pairs}
use Rattle.keys.specs.Tables.{table_outcome, table_by}
use Rattle.searches.specs.declared.Spelled.{Spelled}
use Rattle.searches.specs.Search.{first_where, word_to}
use Rattle.searches.specs.mirror.Tables.{Tabled, Spells}
use Rattle.searches.proofs.Searched as searched
use Rattle.compare.specs.declared.Which.{Which}
use Rattle.compare.specs.Compared as compared
use Rattle.compare.specs.Compared.{pair_number}
use Rattle.compare.specs.Values.{compare_outcome, outcome_of}
use Rattle.compare.specs.Search.{which_of, first_pair, reached_pairs, reached_table, test, first_pairs, found_first, told_apart, compare_of}
use Rattle.compare.proofs.Conditions.{passed, Came, from_where}
use Rattle.compare.proofs.Answers.{by_number, number_over, number-none, firsts-long, refused_first}

pub differ_first : (p q x y : Bool) → x ≡ q → y ≡ p → y ≡ true → not x ≡ cond p (not q) q
differ_first p q x y a b e = let f : p ≡ true = sym b ∙ e in rw (f, a)

pub differ_second : (p q x y : Bool) → x ≡ q → y ≡ p → y ≡ false → x ≡ cond p (not q) q
differ_second p q x y a b e = let f : p ≡ false = sym b ∙ e in rw (f, a)

pub which_first : (p y : Bool) (a b : Which) → y ≡ p → y ≡ true → a ≡ cond p a b
which_first p y a b e f = let g : p ≡ true = sym e ∙ f in rw g

pub which_second : (p y : Bool) (a b : Which) → y ≡ p → y ≡ false → b ≡ cond p a b
which_second p y a b e f = let g : p ≡ false = sym e ∙ f in rw g

-- ---- the two are refused before the search
module _ (one two : Rule) where
  by_first : (e : Refusal) → Came one two (refusal_number e) → compare_outcome (Err e) ≡ outcome_of (compare_of one two)
  by_first e came = sym (ap outcome_of (refused_first one two (refusal_number e) ((from_where one two (refusal_number e)).1 came)))

  pub compare_first : (e : Refusal) → rule_number one ≡ some (refusal_number e) → compare_outcome (Err e) ≡ outcome_of (compare_of one two)
  compare_first e is = by_first e (inl is)

  module _ (passed-one : rule_number one ≡ none) where
    pub compare_second : (e : Refusal) → rule_number two ≡ some (refusal_number e) → compare_outcome (Err e) ≡ outcome_of (compare_of one two)
    compare_second e is = by_first e (inr (passed-one, inl is))

    module _ (passed-two : rule_number two ≡ none) where
      pub compare_36 : (one.k ≡ two.k → ⊥) → compare_outcome (Err OtherSymbols) ≡ outcome_of (compare_of one two)
      compare_36 d = by_first OtherSymbols (inr (passed-one, inr (passed-two, refl, d)))

      pub compare_both : WellFormed one × WellFormed two
      compare_both = ((claims.passes one).0 passed-one, (claims.passes two).0 passed-two)

-- ---- the search
module _ (one two : Rule) (good : WellFormed one) (fine : WellFormed two) (alike : one.k ≡ two.k) (t : KeyTable)
    (are : table_outcome t ≡ table_by Pairs one.targets two.targets one.k (first_pair one two)) (c : ℕ) (held : c ≡ unwrap_or t.count 512) where
  pass : pair_number one two ≡ none
  pass = (passed one two).1 (good, fine, alike)

  pub most : c ≤ 512
  most = searched.held_most Pairs one.targets two.targets one.k (first_pair one two) good.symbols.1 t are c held

  count-is : c ≡ length (first_pairs one two)
  count-is = searched.held_count Pairs one.targets two.targets one.k (first_pair one two) good.symbols.1 t are c held

  keys_are : take c t.keys ≡ first_pairs one two
  keys_are = searched.held_keys Pairs one.targets two.targets one.k (first_pair one two) good.symbols.1 t are c held

  pub tabled : (j : ℕ) → j < c → Tabled t.next one.k j
  tabled j b =
      searched.tabled Pairs one.targets two.targets one.k (first_pair one two) good.symbols.1 t are j
      (omega (arith, count-is, firsts-long one two))
      (omega (arith, most))

  module _ (j : ℕ) (first : j ≡ first_where (test one two) (take c t.keys)) where
    first-is : j ≡ found_first one two
    first-is = first ∙ ap (first_where (test one two)) keys_are

    pub search_text : (s : Spelled) (x : Which) → j < c → x ≡ which_of one.finals (get_or t.keys j 0) → Spells s (word_to t.next j)
        → compare_outcome (Ok (Some (record { which = x; text = s }))) ≡ outcome_of (compare_of one two)
    search_text s x b is spelt =
        let told : told_apart one two ≡ true = lt-ltb (found_first one two) (length (first_pairs one two)) (omega (arith, count-is, first-is)) in
        let next : t.next ≡ reached_table one two =
        searched.next-is Pairs one.targets two.targets one.k (first_pair one two) good.symbols.1 t are in
        let v : word_to t.next j ≡ word_to (reached_table one two) (found_first one two) = rw (next, first-is) in
        let y : x ≡ which_of one.finals (get_or (first_pairs one two) (found_first one two) 0) =
        is
        ∙ ap (which_of one.finals)
        (sym (get_or-take c t.keys j 0 b) ∙ ap (λ (l : List ℕ). get_or l j 0) keys_are ∙ ap (λ (i : ℕ). get_or (first_pairs one two) i 0) first-is) in
        let f : compared.apart x (word_to t.next j) ≡ compare_of one two =
        rw (by_number one two none (number-none one two pass (rw told)), told, v, y) in
        rw (spelt.long, spelt.are) (ap outcome_of f)

    module _ (none_told : c ≤ j) where
      told_none : told_apart one two ≡ false
      told_none = le-ltb (found_first one two) (length (first_pairs one two)) (omega (arith, count-is, first-is))

      pub search_over : t.count ≡ None → compare_outcome (Err TooManyPairs) ≡ outcome_of (compare_of one two)
      search_over e =
          let over = searched.over_many Pairs one.targets two.targets one.k (first_pair one two) good.symbols.1 t are e in
          sym
          (ap outcome_of
          (by_number one two (some 45) (number_over one two pass (rw told_none (lt-ltb 512 (length (reached_pairs one two)) over)))))

      pub search_same : (n : ℕ) → t.count ≡ Some n → compare_outcome (Ok None) ≡ outcome_of (compare_of one two)
      search_same n e =
          let few = searched.few Pairs one.targets two.targets one.k (first_pair one two) good.symbols.1 t are n e in
          let f : compared.same ≡ compare_of one two =
          rw (by_number one two none (number-none one two pass (rw told_none (le-ltb 512 (length (reached_pairs one two)) few))), told_none) in
          ap outcome_of f

-- The pairs of sets of two rules: a text leads to the pair of the sets to which it leads in each,
-- and the test of a pair says whether exactly one rule accepts the text. So the search over pairs
-- finds the first text that tells the two apart. Assumes two well-formed rules.
use mathlib.Core.Path.{◌≡◌, refl, sym, ap, ◌∙◌, subst}
use mathlib.Core.Logic.{◌↔◌, ◌⊎◌, inl, inr, ⊎_elim}
use mathlib.Core.Bool.{Bool, true, false, cond, not}
use mathlib.Core.List.{List, [], ◌∷◌}
use Prim.Native.Nat.{ℕ, ◌^◌, ◌≤◌, ◌<◌}
use native.Mathlib.Nat.{lt_of_lt_of_le}
use native.Mathlib.Omega.{arith}
use lib.Pow.{pow_mono}
use lib.ListN.{length, get_or}
use Rattle.base.proofs.Tests.{by_test, not_both}
use Rattle.masks.specs.Masks.{shares}
use Rattle.automaton.specs.declared.Rule.{Rule}
use Rattle.automaton.specs.Automaton.{Automaton, Text, Run, stay, move, Accepts}
use Rattle.automaton.specs.Rules.{automaton_of, WellFormed}
use Rattle.automaton.specs.Successor.{successor, after}
use Rattle.automaton.proofs.Laws.{successor_below, after_below, accepts_law}
use Rattle.numbering.specs.Texts.{follow}
use Rattle.mappings.proofs.Numbered.{text-of, symbols_of_lem}
use Rattle.keys.specs.Kinds.{pair_key, first_set, second_set}
use Rattle.samples.specs.Samples.{set_after}
use Rattle.searches.specs.Search.{word_to}
use Rattle.searches.proofs.Searches as searches
use Rattle.searches.proofs.Searches.{Hit}
use Rattle.compare.specs.declared.Which.{Which}
use Rattle.compare.specs.declared.Which.TheVariants.{First, Second}
use Rattle.compare.specs.Compared.{Only, Apart, FirstApart, Same, ManyPairs}
use Rattle.compare.specs.Search.{which_of, pair_walk, first_pair, reached_pairs, reached_table, test}

-- ---- a pair as a key
first_of : (x y : ℕ) → x < 2 ^ 32 → first_set (pair_key x y) ≡ x
first_of x y b = omega arith

second-of : (x y : ℕ) → x < 2 ^ 32 → second_set (pair_key x y) ≡ y
second-of x y b = omega arith

-- ---- a text is one of the rule's symbols where it is accepted
run_text : (a : Automaton) {q p : ℕ} {w : List ℕ} → Run a q w p → Text a.k w
run_text a (stay l) = tt
run_text a (move j u) = (j.symbol, run_text a u)

pub accepted_text : (a : Automaton) (w : List ℕ) → Accepts a w → Text a.k w
accepted_text a w h = run_text a h.run

-- ---- exactly one of two
module _ {A B : Type 0} where
  one_of : (p q : Bool) → A ↔ (p ≡ true) → B ↔ (q ≡ true)
      → ((A × (B → ⊥)) ⊎ (B × (A → ⊥))) ↔ (cond p (not q) q ≡ true)
  one_of true true a b = ((λ h. absurd (⊎_elim (λ x. x.1 (b.1 refl)) (λ x. x.1 (a.1 refl)) h)), λ h. not_both h refl)
  one_of true false a b = ((λ h. refl), λ h. inl (a.1 refl, λ x. not_both (b.0 x) refl))
  one_of false true a b = ((λ h. refl), λ h. inr (b.1 refl, λ x. not_both (a.0 x) refl))
  one_of false false a b =
      ((λ h. ⊎_elim (λ x. a.0 x.0) (λ x. b.0 x.0) h), λ h. not_both h refl)

  none_of : (p q : Bool) → A ↔ (p ≡ true) → B ↔ (q ≡ true) → cond p (not q) q ≡ false → A ↔ B
  none_of true true a b e = ((λ x. b.1 refl), λ x. a.1 refl)
  none_of true false a b e = not_both refl e
  none_of false true a b e = not_both refl e
  none_of false false a b e = ((λ x. not_both (a.0 x) refl), λ x. not_both (b.0 x) refl)

module _ (one two : Rule) (w : List ℕ) where
  only_which : (p q : Bool) → Accepts (automaton_of one) w ↔ (p ≡ true) → Accepts (automaton_of two) w ↔ (q ≡ true)
      → cond p (not q) q ≡ true → Only (cond p First Second) one two w
  only_which true true a b e = not_both e refl
  only_which true false a b e = (a.1 refl, λ x. not_both (b.0 x) refl)
  only_which false true a b e = (b.1 refl, λ x. not_both (a.0 x) refl)
  only_which false false a b e = not_both e refl

module _ (one two : Rule) (good : WellFormed one) where
  small : (x : ℕ) → x < 2 ^ one.n → x < 2 ^ 32
  small x h = lt_of_lt_of_le h (pow_mono good.states.1)

  follow_pair : (x y : ℕ) → x < 2 ^ one.n → (w : List ℕ)
      → follow (pair_walk one two) (pair_key x y) w ≡ pair_key (after one.targets x w) (after two.targets y w)
  follow_pair x y h [] = refl
  follow_pair x y h (s ∷ w) =
      ap (λ (u : ℕ). follow (pair_walk one two) (pair_key (successor one.targets u s) (successor two.targets (second_set (pair_key x y)) s)) w) (first_of x y (small x h))
      ∙ ap (λ (u : ℕ). follow (pair_walk one two) (pair_key (successor one.targets x s) (successor two.targets u s)) w) (second-of x y (small x h))
      ∙ follow_pair (successor one.targets x s) (successor two.targets y s) (successor_below one good x s) w

  abbrev pair_after : List ℕ → ℕ
  pair_after w = pair_key (set_after one w) (set_after two w)

  leads : (w : List ℕ) → follow (pair_walk one two) (first_pair one two) w ≡ pair_after w
  leads w = follow_pair one.initials two.initials good.initials_below w

  first-is : (w : List ℕ) → first_set (pair_after w) ≡ set_after one w
  first-is w = first_of (set_after one w) (set_after two w) (small (set_after one w) (after_below one good one.initials w good.initials_below))

  second_is : (w : List ℕ) → second_set (pair_after w) ≡ set_after two w
  second_is w = second-of (set_after one w) (set_after two w) (small (set_after one w) (after_below one good one.initials w good.initials_below))

  -- ---- the test of a pair
  abbrev p : List ℕ → Bool
  p w = shares (set_after one w) one.finals

  abbrev q : List ℕ → Bool
  q w = shares (set_after two w) two.finals

  test_is : (w : List ℕ) → test one two (follow (pair_walk one two) (first_pair one two) w) ≡ cond (p w) (not (q w)) (q w)
  test_is w =
      ap (test one two) (leads w)
      ∙ ap (λ (x : ℕ). cond (shares x one.finals) (not (shares (second_set (pair_after w)) two.finals)) (shares (second_set (pair_after w)) two.finals)) (first-is w)
      ∙ ap (λ (x : ℕ). cond (p w) (not (shares x two.finals)) (shares x two.finals)) (second_is w)

  which_is : (w : List ℕ) → which_of one.finals (follow (pair_walk one two) (first_pair one two) w) ≡ cond (p w) First Second
  which_is w = ap (which_of one.finals) (leads w) ∙ ap (λ (x : ℕ). cond (shares x one.finals) First Second) (first-is w)

  module _ (fine : WellFormed two) where
    apart_is : (w : List ℕ) → Apart one two w ↔ Hit (pair_walk one two) (first_pair one two) (test one two) w
    apart_is w =
        let law = one_of (p w) (q w) (accepts_law one good w) (accepts_law two fine w) in (
          (λ h. record { symbols = symbols_of_lem one.k w h.symbols; meets = test_is w ∙ law.0 h.by }),
          λ h. record { symbols = text-of h.symbols; by = law.1 (sym (test_is w) ∙ h.meets) },
        )

    abbrev pair : ℕ → ℕ
    pair j = get_or (reached_pairs one two) j 0

    -- ---- too many pairs before the rules differ
    pub many : ((512 < length (reached_pairs one two)) × ((i : ℕ) → i < 512 → test one two (pair i) ≡ false)) ↔ ManyPairs one two
    many =
        let law = searches.many (pair_walk one two) (first_pair one two) (λ _. refl) (test one two) in (
          (λ h.
              let t = law.0 h in
              record {
                text = t.text;
                symbols = λ i b. text-of (t.symbols i b);
                distinct = λ i j b c e f.
                    t.distinct i j b c
                    (leads (t.text i)
                    ∙ ap (λ (x : ℕ). pair_key x (set_after two (t.text i))) e
                    ∙ ap (λ (x : ℕ). pair_key (set_after one (t.text j)) x) f
                    ∙ sym (leads (t.text j)));
                sooner = λ i b v h. t.sooner i b v ((apart_is v).0 h);
              }),
          λ t.
              law.1
              (record {
                text = t.text;
                symbols = λ i b. symbols_of_lem one.k (t.text i) (t.symbols i b);
                distinct = λ i j b c e.
                    let f : pair_after (t.text i) ≡ pair_after (t.text j) = sym (leads (t.text i)) ∙ e ∙ leads (t.text j) in
                    t.distinct i j b c
                    (sym (first-is (t.text i)) ∙ ap first_set f ∙ first-is (t.text j))
                    (sym (second_is (t.text i)) ∙ ap second_set f ∙ second_is (t.text j));
                sooner = λ i b v h. t.sooner i b v ((apart_is v).1 h);
              }),
        )

    -- ---- what the search finds
    module _ (j : ℕ) (b : j < length (reached_pairs one two)) (small : j < 512) where
      pub first_text : test one two (pair j) ≡ true → ((i : ℕ) → i < j → test one two (pair i) ≡ false)
          → FirstApart one two (which_of one.finals (pair j)) (word_to (reached_table one two) j)
      first_text meets-it before =
          let w : List ℕ = word_to (reached_table one two) j in
          let f = searches.first_hit (pair_walk one two) (first_pair one two) (λ _. refl) good.symbols.1 j b small (test one two) meets-it before in
          let there = searches.leads_to (pair_walk one two) (first_pair one two) (λ _. refl) good.symbols.1 j b small in
          let is : cond (p w) First Second ≡ which_of one.finals (pair j) = sym (which_is w) ∙ ap (which_of one.finals) there in
          record {
            symbols = text-of f.hit.symbols;
            by = subst (λ (x : Which). Only x one two w) is
                (only_which one two w (p w) (q w) (accepts_law one good w) (accepts_law two fine w) (sym (test_is w) ∙ f.hit.meets));
            no_sooner = λ v h. f.no_sooner v ((apart_is v).0 h);
          }

      pub short_text : length (word_to (reached_table one two) j) ≤ 511
      short_text = searches.short_hit (pair_walk one two) (first_pair one two) (λ _. refl) good.symbols.1 j b small

    pub all_same : length (reached_pairs one two) ≤ 512 → ((i : ℕ) → i < length (reached_pairs one two) → test one two (pair i) ≡ false) → Same one two
    all_same most none w t =
        none_of (p w) (q w) (accepts_law one good w) (accepts_law two fine w)
        (by_test (cond (p w) (not (q w)) (q w))
        (λ e.
        absurd
        (searches.no_hit (pair_walk one two) (first_pair one two) (λ _. refl) (test one two) most none w
        (record { symbols = symbols_of_lem one.k w t; meets = test_is w ∙ e })))
        (λ e. e))

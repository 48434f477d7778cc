-- The text on the way back from the first set that meets the wish is the first wished text; where
-- no set meets it, no text is wished. Assumes a well-formed rule with at most 512 sets.
use mathlib.Core.Path.{◌≡◌, refl, sym, ap, ◌∙◌}
use mathlib.Core.Logic.{◌↔◌}
use mathlib.Core.Bool.{Bool, true, false, not}
use mathlib.Core.List.{List, [], ◌∷◌}
use Prim.Native.Nat.{ℕ, ◌≤◌, ◌<◌}
use native.Mathlib.Omega.{arith}
use lib.ListN.{length, get_or}
use Rattle.base.proofs.Tests.{not_both}
use Rattle.masks.specs.Masks.{shares}
use Rattle.automaton.specs.declared.Rule.{Rule}
use Rattle.automaton.specs.Automaton.{Accepts}
use Rattle.automaton.specs.Rules.{automaton_of, WellFormed}
use Rattle.automaton.specs.Successor.{after}
use Rattle.automaton.proofs.Laws.{accepts_law}
use Rattle.numbering.specs.Texts.{follow}
use Rattle.mappings.proofs.Numbered.{text-of, symbols_of_lem}
use Rattle.searches.specs.Search.{word_to}
use Rattle.searches.proofs.Searches as searches
use Rattle.searches.proofs.Searches.{Hit}
use Rattle.samples.specs.declared.Wish.{Wish}
use Rattle.samples.specs.declared.Wish.TheVariants.{Accepted, Rejected}
use Rattle.samples.specs.Samples.{Judged, Wished, First, set_after, ManySets}
use Rattle.samples.specs.Search.{set_walk, reached_sets, reached_table, meets}

pub follow_after : (r : Rule) (m : ℕ) (w : List ℕ) → follow (set_walk r) m w ≡ after r.targets m w
follow_after r m [] = refl
follow_after r m (s ∷ w) = follow_after r ((set_walk r).step m s) w

module _ (r : Rule) where
  leads : (w : List ℕ) → follow (set_walk r) r.initials w ≡ set_after r w
  leads w = follow_after r r.initials w

  pub many : (512 < length (reached_sets r)) ↔ ManySets r
  many =
      let law = searches.many (set_walk r) r.initials (λ _. refl) (λ _. false) in (
        (λ h.
            let t = law.0 (h, λ i b. refl) in
            record {
              text = t.text;
              symbols = λ i b. text-of (t.symbols i b);
              distinct = λ i j b c e. t.distinct i j b c (leads (t.text i) ∙ e ∙ sym (leads (t.text j)));
            }),
        λ t.
            (law.1
            (record {
              text = t.text;
              symbols = λ i b. symbols_of_lem r.k (t.text i) (t.symbols i b);
              distinct = λ i j b c e. t.distinct i j b c (sym (leads (t.text i)) ∙ e ∙ leads (t.text j));
              sooner = λ i b v h. not_both h.meets refl;
            })
            ).0,
      )

  module _ (good : WellFormed r) where
    -- the test of the set to which a text leads
    pub judged : (wish : Wish) (w : List ℕ) → Judged r wish w ↔ (meets r.finals wish (set_after r w) ≡ true)
    judged Accepted w = accepts_law r good w
    judged Rejected w = go (shares (set_after r w) r.finals) (accepts_law r good w)
      where
        go : (b : Bool) → Accepts (automaton_of r) w ↔ (b ≡ true) → (Accepts (automaton_of r) w → ⊥) ↔ (not b ≡ true)
        go true e = ((λ h. absurd (h (e.1 refl))), λ h x. not_both h refl)
        go false e = ((λ h. refl), λ h x. not_both (e.0 x) refl)

    module _ (most : length (reached_sets r) ≤ 512) where
      abbrev set : ℕ → ℕ
      set j = get_or (reached_sets r) j 0

      module _ (wish : Wish) where
        abbrev test : ℕ → Bool
        test = meets r.finals wish

        wished_is : (w : List ℕ) → Wished r wish w ↔ Hit (set_walk r) r.initials test w
        wished_is w = (
          (λ h. record { symbols = symbols_of_lem r.k w h.symbols; meets = ap test (leads w) ∙ (judged wish w).0 h.judged }),
          λ h. record { symbols = text-of h.symbols; judged = (judged wish w).1 (sym (ap test (leads w)) ∙ h.meets) },
        )

        pub first_text : (j : ℕ) → j < length (reached_sets r) → test (set j) ≡ true → ((i : ℕ) → i < j → test (set i) ≡ false)
            → First r wish (word_to (reached_table r) j)
        first_text j b meets-it before =
            let f = searches.first_hit (set_walk r) r.initials (λ _. refl) good.symbols.1 j b (omega arith) test meets-it before in
            record {
              wished = (wished_is (word_to (reached_table r) j)).1 f.hit;
              no_sooner = λ v h. f.no_sooner v ((wished_is v).0 h);
            }

        pub no_text : ((i : ℕ) → i < length (reached_sets r) → test (set i) ≡ false) → (v : List ℕ) → Wished r wish v → ⊥
        no_text none v h = searches.no_hit (set_walk r) r.initials (λ _. refl) test most none v ((wished_is v).0 h)

      pub short_text : (j : ℕ) → j < length (reached_sets r) → length (word_to (reached_table r) j) ≤ 511
      short_text j b = searches.short_hit (set_walk r) r.initials (λ _. refl) good.symbols.1 j b (omega arith)

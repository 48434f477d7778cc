-- What stands at each place, and over all of them: the end sets, counts and texts of document 01,
-- where s is what the calls h say. Assumes nothing.
--
--   rule_there_lem     a chunk stands only where a rule is there
--   end_at_lem, count_at_lem  the end sets and the count of a place
--   sum_law            the sum of the counts
--   empties_same, text_same, accepts_same   the empty places, the text, and which texts are
--                                           accepted
use mathlib.Core.Path.{◌≡◌, refl, sym, ap, ◌∙◌, subst, fun_ext}
use mathlib.Core.Logic.Iff
use mathlib.Core.Logic.{◌↔◌}
use mathlib.Core.List.{List}
use mathlib.Core.Option.{Option, none, some}
use Prim.Native.Nat.{ℕ, suc, ◌/◌, ◌%◌, ◌*◌, ◌≤◌, ◌<◌}
use native.Mathlib.Omega.{arith}
use lib.Dec.{ltb}
use lib.ListN.{length, take}
use borrow.Author.Tests.{ltb-true, ltb-false}
use Rattle.base.specs.Options.{is_none}
use Rattle.base.specs.Totals.{total}
use Rattle.base.proofs.Options.{none-some}
use Rattle.base.proofs.Tests.{by_test, not_both}
use Rattle.base.proofs.Totals.{total_same}
use Rattle.masks.specs.Masks.{◌∈◌}
use Rattle.masks.proofs.Laws.{no_member}
use Rattle.marks.specs.Marks.{text_of}
use Rattle.marks.proofs.Laws.{no_longer}
use Rattle.automaton.specs.Automaton.{Run, Accepts}
use Rattle.automaton.specs.Rules.{automaton_of}
use Rattle.chunks.specs.Counting.{HowMany, RunsOver}
use Rattle.chunks.proofs.Counting.{how_many_once, how_many_none}
use Rattle.calls.specs.Calls.{Call}
use Rattle.histories.specs.History.{rule_from, rule_in, places_in, standing, standing_text, count_of, end_of, count_at, end_at, summed_in, empties_in, text_in as text_by}
use Rattle.histories.proofs.CountBound.{standing_short}
use Rattle.histories.proofs.EveryList.{good}
use Rattle.transcripts.specs.Standing.{Source, Standing, automaton_by, automaton_from, the_automaton, text_in, empties}
use Rattle.transcripts.specs.Runs.{Started, InEndSet, CountAt, SumIs}
use Rattle.transcripts.specs.Agreement.{rule_for, Sound, Agree}
use Rattle.transcripts.proofs.Sources.{ends_by, count_by, accepts_by}

-- ---- a place, by the source o of the rule and what stands there
module _ (p : ℕ) (o : Option Source) (sound : Sound o) where
  end_of_lem : (u : Option (List ℕ)) → ((w : List ℕ) → u ≡ some w → o ≡ none → ⊥) → (q y : ℕ)
      → y ∈ end_of (rule_from (rule_for o)) p q u
      ↔ ((w : List ℕ) × (u ≡ some w) × Started (automaton_from o) p q × Run (automaton_from o) q (text_of w) y)
  end_of_lem none there q y = ((λ m. absurd (no_member y m)), λ x. none-some refl x.1)
  end_of_lem (some v) there q y = of o sound (there v refl)
    where
      of : (o : Option Source) → Sound o → (o ≡ none → ⊥)
          → y ∈ end_of (rule_from (rule_for o)) p q (some v)
          ↔ ((w : List ℕ) × (some v ≡ some w) × Started (automaton_from o) p q × Run (automaton_from o) q (text_of w) y)
      of none e n = absurd (n refl)
      of (some x) e n =
          Iff.trans (ends_by x e p q (text_of v) y) (
            (λ z. (v, refl, z.0, z.1)),
            λ z. let same : z.0 ≡ v = let s = z.1 in cc in (z.2, subst (λ (w : List ℕ). Run (automaton_by x) q (text_of w) y) same z.3),
          )

  count_of_lem : (u : Option (List ℕ)) → ((w : List ℕ) → u ≡ some w → o ≡ none → ⊥) → ((w : List ℕ) → u ≡ some w → length w ≤ 65536)
      → HowMany (λ i. Started (automaton_from o) p (i / 65536) × (i % 65536 < length (standing_text u)) × RunsOver (automaton_from o) (i / 65536) (take (suc (i % 65536)) (standing_text u)))
      (32 * 65536) (count_of (rule_from (rule_for o)) p u)
  count_of_lem none there short = how_many_none (λ i t. let b = t.1 in omega arith) (32 * 65536)
  count_of_lem (some w) there short = of o sound (there w refl)
    where
      of : (o : Option Source) → Sound o → (o ≡ none → ⊥)
          → HowMany (λ i. Started (automaton_from o) p (i / 65536) × (i % 65536 < length (text_of w)) × RunsOver (automaton_from o) (i / 65536) (take (suc (i % 65536)) (text_of w)))
          (32 * 65536) (count_of (rule_from (rule_for o)) p (some w))
      of none e n = absurd (n refl)
      of (some x) e n = count_by x e p (text_of w) (omega (arith, no_longer w, short w refl))

-- ---- of what the calls say
module _ (h : List Call) (s : Standing) (g : Agree h s) where
  -- a board is there only with a rule, and a chunk stands only on a board
  pub ruled : 0 < places_in h → s.rule ≡ none → ⊥
  ruled l e = not_both (ap is_none (g.rule ∙ ap rule_for e)) ((good h).ruled l)

  pub standing_below : (p : ℕ) (w : List ℕ) → standing h p ≡ some w → p < places_in h
  standing_below p w e =
      by_test (ltb p (places_in h)) (λ t. ltb-true p (places_in h) t)
      (λ t. none-some ((good h).beyond p (ltb-false p (places_in h) t)) e)

  rule_there_lem : (p : ℕ) (w : List ℕ) → s.chunk p ≡ some w → s.rule ≡ none → ⊥
  rule_there_lem p w e n = let l = standing_below p w (sym (g.chunk p) ∙ e) in ruled (omega arith) n

  pub end_at_lem : (p q y : ℕ) → y ∈ end_at h p q ↔ InEndSet s p q y
  end_at_lem p q y = rw (g.rule, ← g.chunk p) (end_of_lem p s.rule g.sound (s.chunk p) (rule_there_lem p) q y)

  pub count_at_lem : (p : ℕ) → CountAt s p (count_at h p)
  count_at_lem p =
      rw (g.rule, ← g.chunk p)
      (count_of_lem p s.rule g.sound (s.chunk p) (rule_there_lem p) (λ w e. standing_short h p w (sym (g.chunk p) ∙ e)))

  pub sum_law : (c : ℕ) → SumIs s c ↔ (c ≡ summed_in h)
  sum_law c = (
    (λ x.
        x.2
        ∙ total_same x.0 (count_at h) s.places (λ p l. how_many_once (x.1 p l) (count_at_lem p))
        ∙ ap (total (count_at h)) g.places),
    λ e. (count_at h, (λ p l. count_at_lem p), e ∙ ap (total (count_at h)) (sym g.places)),
  )

  chunks_same : s.chunk ≡ standing h
  chunks_same = fun_ext g.chunk

  pub empties_same : empties s ≡ empties_in h
  empties_same = rw (chunks_same, g.places)

  pub text_same : text_in s ≡ text_by h
  text_same = rw (chunks_same, g.places)

  pub accepts_same : 0 < places_in h → (w : List ℕ) → Accepts (the_automaton s) w ↔ Accepts (automaton_of (rule_in h)) w
  accepts_same l w = rw g.rule (of s.rule g.sound (ruled l))
    where
      of : (o : Option Source) → Sound o → (o ≡ none → ⊥) → Accepts (automaton_from o) w ↔ Accepts (automaton_of (rule_from (rule_for o))) w
      of none e n = absurd (n refl)
      of (some x) e n = accepts_by x e w

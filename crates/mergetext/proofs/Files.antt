-- Two rule files merged: the number, and the file of the result. Assumes nothing.
--
--   files_law            the number: the first file's, else the second's, else that of the two rules
--   both-read            where there is none both files are accepted, and their rules can be merged
--   result_read          the result is a file that reading accepts
--   language             the texts that it accepts
--   merged_fits          the most bytes of an answer
use mathlib.Core.Path.{◌≡◌, refl, sym, ap, ◌∙◌, subst}
use mathlib.Core.Logic.{◌↔◌, inl, inr, ⊎_elim}
use mathlib.Core.List.{List, [], ◌∷◌, ◌++◌}
use mathlib.Core.Option.{Option, none, some}
use Prim.Native.Nat.{ℕ, ◌≤◌}
use native.Mathlib.Omega.{arith}
use lib.ListN.{length, length-append}
use Rattle.base.specs.Conditions.{first_of}
use Rattle.base.proofs.Tests.{zero_one}
use Rattle.base.proofs.Conditions.{or_else, first_append}
use Rattle.answers.proofs.Lengths.{refused_short}
use Rattle.fields.specs.Claims.{digits_of}
use Rattle.hexfields.proofs.Digits.{digits_length}
use Rattle.automaton.specs.declared.Rule.{Rule}
use Rattle.automaton.specs.Automaton.{Automaton, Accepts, Equivalent}
use Rattle.automaton.specs.Rules.{automaton_of, WellFormed}
use Rattle.rulecheck.specs.Checking.{rule_number}
use Rattle.rulecheck.proofs.Laws.{passes}
use Rattle.ruleformat.specs.Refusals.{file_conditions, refusal}
use Rattle.ruleformat.specs.Reader.{rule_of}
use Rattle.ruleformat.specs.Language.{automaton_in}
use Rattle.ruleformat.proofs.Claims as rulefile
use Rattle.rulewriter.proofs.Claims as writer
use Rattle.merging.specs.declared.Way.{Way}
use Rattle.merging.specs.declared.Way.TheVariants.{Both, Either, Interleaving}
use Rattle.merging.specs.Languages.{Merges}
use Rattle.merging.specs.Merged.{merged_of}
use Rattle.merging.specs.Merging.{pair_conditions, merge_number}
use Rattle.merging.specs.Claims.{Mergeable}
use Rattle.merging.proofs.Conditions.{number_law}
use Rattle.merging.proofs.Claims as merging
use Rattle.mergetext.specs.Answers.{files_number, result_file, refused, file, response_by, response_text, merged_files}

-- ---- the number
files_law : (way : Way) (f g : List ℕ)
    → files_number way f g ≡ or_else (refusal f) (or_else (refusal g) (first_of (pair_conditions way (rule_of f) (rule_of g))))
unfolding files_number refusal
files_law way f g =
    first_append (file_conditions f) (file_conditions g ++ pair_conditions way (rule_of f) (rule_of g))
    ∙ ap (or_else (first_of (file_conditions f))) (first_append (file_conditions g) (pair_conditions way (rule_of f) (rule_of g)))

none_first : (a b : Option ℕ) → or_else a b ≡ none → (a ≡ none) × (b ≡ none)
none_first none b e = (refl, e)
none_first (some x) b e = zero_one cc

module _ (way : Way) (f g : List ℕ) where
  pub refused_first : (x : ℕ) → refusal f ≡ some x → files_number way f g ≡ some x
  refused_first x e = files_law way f g ∙ rw e

  module _ (read : refusal f ≡ none) where
    pub refused_second : (x : ℕ) → refusal g ≡ some x → files_number way f g ≡ some x
    refused_second x e = files_law way f g ∙ rw (read, e)

    pub as_rules : refusal g ≡ none → files_number way f g ≡ merge_number way (rule_of f) (rule_of g)
    as_rules e =
        files_law way f g
        ∙ rw (read, e)
        (sym (number_law way (rule_of f) (rule_of g) ∙ rw ((rulefile.claims).passes f read, (rulefile.claims).passes g e)))

  module _ (taken : files_number way f g ≡ none) where
    read_first : refusal f ≡ none
    read_first = (none_first (refusal f) _ (sym (files_law way f g) ∙ taken)).0

    read_second : refusal g ≡ none
    read_second = (none_first (refusal g) _ (none_first (refusal f) _ (sym (files_law way f g) ∙ taken)).1).0

    mergeable : Mergeable way (rule_of f) (rule_of g)
    mergeable = ((merging.claims).refused way (rule_of f) (rule_of g)).taken.0 (sym (as_rules read_first read_second) ∙ taken)

    pub result : WellFormed (merged_of way (rule_of f) (rule_of g))
    result = (merging.claims).well_formed way (rule_of f) (rule_of g) mergeable

    -- ---- the result
    pub result_read : (refusal (result_file way f g) ≡ none) × (rule_of (result_file way f g) ≡ merged_of way (rule_of f) (rule_of g))
    result_read = (rulefile.claims).written (merged_of way (rule_of f) (rule_of g)) ((merging.claims).cells way (rule_of f) (rule_of g)) result

-- ---- the texts
-- automata that accept the same texts merge to the same texts
merges_same : (way : Way) (a b c d : Automaton) → Equivalent a c → Equivalent b d → (w : List ℕ) → Merges way a b w → Merges way c d w
merges_same Both a b c d e h w t = ((e w).0 t.0, (h w).0 t.1)
merges_same Either a b c d e h w t = ⊎_elim (λ x. inl ((e w).0 x)) (λ x. inr ((h w).0 x)) t
merges_same Interleaving a b c d e h w t = record {
  u = t.u;
  v = t.v;
  first = (e t.u).0 t.first;
  second = (h t.v).0 t.second;
  interleaves = t.interleaves;
}

back : {a b : Automaton} → Equivalent a b → Equivalent b a
back e w = ((e w).1, (e w).0)

pub language : (way : Way) (f g : List ℕ) → files_number way f g ≡ none → (w : List ℕ)
    → Accepts (automaton_in (result_file way f g)) w ↔ Merges way (automaton_in f) (automaton_in g) w
language way f g taken w =
    let one = (rulefile.claims).language f (read_first way f g taken) in
    let two = (rulefile.claims).language g (read_second way f g taken) in
    let three = (rulefile.claims).language (result_file way f g) (result_read way f g taken).0 w in
    let same = (result_read way f g taken).1 in
    let texts = (merging.claims).language way (rule_of f) (rule_of g) (mergeable way f g taken) w in (
      (λ t.
          merges_same way (automaton_of (rule_of f)) (automaton_of (rule_of g)) (automaton_in f) (automaton_in g) (back one) (back two) w
          (texts.0 (subst (λ (r : Rule). Accepts (automaton_of r) w) same (three.0 t)))),
      λ t.
          three.1
          (subst (λ (r : Rule). Accepts (automaton_of r) w) (sym same)
          (texts.1
          (merges_same way (automaton_in f) (automaton_in g) (automaton_of (rule_of f)) (automaton_of (rule_of g)) one two w t))),
    )

-- ---- the length of an answer
file_most : (f : List ℕ) → length f ≤ 32906 → length (response_text (file f)) ≤ 65813
file_most f h = let d = digits_length f in let l = length-append (digits_of f) (10 ∷ []) in omega arith

pub response_most : (o : Option ℕ) (f : List ℕ) → (o ≡ none → length f ≤ 32906) → length (response_text (response_by o f)) ≤ 65813
response_most none f h = file_most f (h refl)
response_most (some x) f h = omega (arith, refused_short x)

pub merged_fits : (way : Way) (f g : List ℕ) → length (response_text (merged_files way f g)) ≤ 65813
merged_fits way f g =
    response_most (files_number way f g) (result_file way f g)
    (λ e.
    let r = merged_of way (rule_of f) (rule_of g) in
    let passed : rule_number r ≡ none = (passes r).1 (result way f g e) in
    (writer.claims).fits r passed)

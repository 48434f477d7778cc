-- Two rule files compared, and one reduced: what they are answered, and each way through the functions.
-- Assumes nothing.
--
--   compared_first, compared_second, compared_rules   two files compared
--   apart_by, same_by, refused_by_lem, number_by      each answer comes from its comparison or number
--                                                     alone
--   compared_apart, compared_same, compared_refused   so, of two files
--   reduced_first, reduced_rule, reduced_read         a file reduced
--   reduced_accepted, reduced_refused                 by the number
--   fits                                              the most bytes of an answer
--   end_room, text_written                            the line of a text
--   compared_answered                                 what comparing two files is answered
--   made_passes                                       the rule that reducing left passes its check
--   by_pair, by_alone                                 what a word is answered
use Rattle.std.proofs.Common as code
use Rattle.std.proofs.Common.{Result, Ok}
use mathlib.Core.Path.{◌≡◌, refl, sym, ap, ap₂, ◌∙◌, subst}
use mathlib.Core.Logic.{◌↔◌}
use mathlib.Core.List.{List, [], ◌∷◌, ◌++◌}
use mathlib.Core.Option.{Option, none, some}
use Prim.Native.Nat.{ℕ, ◌+◌, ◌≤◌, ◌<◌}
use native.Mathlib.Omega.{arith}
use lib.ListN.{length, length-append}
use Rattle.base.specs.declared.Refusal.{Refusal}
use Rattle.base.proofs.Tests.{zero_one}
use Rattle.text.specs.Writing.{Wrote}
use Rattle.text.proofs.Rooms.{exact, most, left, more, two}
use Rattle.answers.proofs.Lengths.{refused_short}
use Rattle.fields.specs.Claims.{field_of}
use Rattle.automaton.specs.declared.Rule.{Rule}
use Rattle.rulecheck.specs.Checking.{rule_number}
use Rattle.rulecheck.proofs.Laws.{passes}
use Rattle.ruleformat.specs.Refusals.{refusal}
use Rattle.ruleformat.specs.Reader.{rule_of}
use Rattle.ruleformat.specs.Writing.{file_of}
use Rattle.ruleformat.proofs.Claims as rulefile
use Rattle.rulewriter.proofs.Claims as writer
use Rattle.sampletext.proofs.Lines.{field_most}
use Rattle.compare.specs.declared.Which.{Which}
use Rattle.compare.specs.declared.Which.TheVariants.{First, Second}
use Rattle.compare.specs.declared.Apart.{Apart}
use Rattle.compare.specs.Compared as compared
use Rattle.compare.specs.Compared.{Comparison}
use Rattle.compare.specs.Values.{compare_outcome, outcome_of, comparison_in}
use Rattle.compare.specs.Search.{compare_of}
use Rattle.compare.proofs.Claims as compare
use Rattle.reducing.specs.declared.Reduced.{Reduced}
use Rattle.reducing.specs.Reducing.{Reducing, reduce_outcome, reduce_of}
use Rattle.reducing.proofs.Claims as reducing
use Rattle.mergetext.specs.declared.Verb.{Verb}
use Rattle.mergetext.specs.Lines.{Meaning, merges, compares, reduces, malformed, pair_by, alone_by}
use Rattle.mergetext.specs.Answers.{Response, refused, file, apart, same, response_by, after_read, compared_by, compared_files, reduced_by, reduced_file, response_in, apart_word, response_text}
use Rattle.mergetext.proofs.Files.{response_most, merged_fits}

-- ---- each answer comes from its comparison or number alone
apart_by : (a : Comparison) (which : Which) (w : List ℕ) → compared_by a ≡ apart which w → a ≡ compared.apart which w
apart_by (compared.apart one v) which w e = cc
apart_by compared.same which w e = zero_one cc
apart_by (compared.refused x) which w e = zero_one cc

same_by : (a : Comparison) → compared_by a ≡ same → a ≡ compared.same
same_by (compared.apart which w) e = zero_one cc
same_by compared.same e = refl
same_by (compared.refused x) e = zero_one cc

refused_by_lem : (a : Comparison) (x : ℕ) → compared_by a ≡ refused x → a ≡ compared.refused x
refused_by_lem (compared.apart which w) x e = zero_one cc
refused_by_lem compared.same x e = zero_one cc
refused_by_lem (compared.refused y) x e = cc

number_by : (n : Option ℕ) (h : List ℕ) (x : ℕ) → response_by n h ≡ refused x → n ≡ some x
number_by none h x e = zero_one cc
number_by (some y) h x e = cc

-- ---- two files compared
module _ (f g : List ℕ) where
  abbrev by_rules : Response
  by_rules = compared_by (compare_of (rule_of f) (rule_of g))

  pub compared_first : (x : ℕ) → refusal f ≡ some x → compared_files f g ≡ refused x
  compared_first x e = ap (λ (o : Option ℕ). after_read o (after_read (refusal g) by_rules)) e

  module _ (read : refusal f ≡ none) where
    second_first : compared_files f g ≡ after_read (refusal g) by_rules
    second_first = ap (λ (o : Option ℕ). after_read o (after_read (refusal g) by_rules)) read

    pub compared_second : (x : ℕ) → refusal g ≡ some x → compared_files f g ≡ refused x
    compared_second x e = second_first ∙ ap (λ (o : Option ℕ). after_read o by_rules) e

    pub compared_rules : refusal g ≡ none → compared_files f g ≡ by_rules
    compared_rules e = second_first ∙ ap (λ (o : Option ℕ). after_read o by_rules) e

    module _ (read2 : refusal g ≡ none) where
      is_rules : compared_files f g ≡ by_rules
      is_rules = compared_rules read2

      pub compared_apart : (which : Which) (w : List ℕ) → (compared_files f g ≡ apart which w) ↔ (compare_of (rule_of f) (rule_of g) ≡ compared.apart which w)
      compared_apart which w = (λ e. apart_by (compare_of (rule_of f) (rule_of g)) which w (sym is_rules ∙ e), λ e. is_rules ∙ ap compared_by e)

      pub compared_same : (compared_files f g ≡ same) ↔ (compare_of (rule_of f) (rule_of g) ≡ compared.same)
      compared_same = (λ e. same_by (compare_of (rule_of f) (rule_of g)) (sym is_rules ∙ e), λ e. is_rules ∙ ap compared_by e)

      pub compared_refused : (x : ℕ) → (compared_files f g ≡ refused x) ↔ (compare_of (rule_of f) (rule_of g) ≡ compared.refused x)
      compared_refused x = (λ e. refused_by_lem (compare_of (rule_of f) (rule_of g)) x (sym is_rules ∙ e), λ e. is_rules ∙ ap compared_by e)

-- ---- a file reduced
module _ (f : List ℕ) where
  pub reduced_first : (x : ℕ) → refusal f ≡ some x → reduced_file f ≡ refused x
  reduced_first x e = ap (λ (o : Option ℕ). after_read o (reduced_by (reduce_of (rule_of f)))) e

  pub reduced_rule : refusal f ≡ none → reduced_file f ≡ reduced_by (reduce_of (rule_of f))
  reduced_rule e = ap (λ (o : Option ℕ). after_read o (reduced_by (reduce_of (rule_of f)))) e

  module _ (read : refusal f ≡ none) where
    as_number : {n : Option ℕ} → (reduce_of (rule_of f)).number ≡ n → reduced_file f ≡ response_by n (file_of (reduce_of (rule_of f)).rule)
    as_number e = reduced_rule read ∙ ap (λ (o : Option ℕ). response_by o (file_of (reduce_of (rule_of f)).rule)) e

    pub reduced_accepted : (reduce_of (rule_of f)).number ≡ none → reduced_file f ≡ file (file_of (reduce_of (rule_of f)).rule)
    reduced_accepted e = as_number e

    pub reduced_refused : (x : ℕ) → (reduced_file f ≡ refused x) ↔ ((reduce_of (rule_of f)).number ≡ some x)
    reduced_refused x = (
      λ e. number_by (reduce_of (rule_of f)).number (file_of (reduce_of (rule_of f)).rule) x (sym (reduced_rule read) ∙ e),
      λ e. as_number e,
    )

module _ (r : Rule) (taken : (reduce_of r).number ≡ none) where
  pub reduced_passes : rule_number (reduce_of r).rule ≡ none
  reduced_passes = ((reducing.claims).reducing r).checked taken

  written : (refusal (file_of (reduce_of r).rule) ≡ none) × (rule_of (file_of (reduce_of r).rule) ≡ (reduce_of r).rule)
  written =
      (rulefile.claims).written (reduce_of r).rule ((reducing.claims).reducing r).cells ((passes (reduce_of r).rule).0 reduced_passes)

module _ (f g : List ℕ) where
  result_by : (n : Option ℕ) → (reduce_of (rule_of f)).number ≡ n → response_by n (file_of (reduce_of (rule_of f)).rule) ≡ file g
      → (refusal g ≡ none) × (rule_of g ≡ (reduce_of (rule_of f)).rule)
  result_by none taken e =
      let is : file_of (reduce_of (rule_of f)).rule ≡ g = cc in
      subst (λ (x : List ℕ). (refusal x ≡ none) × (rule_of x ≡ (reduce_of (rule_of f)).rule)) is (written (rule_of f) taken)
  result_by (some x) taken e = zero_one cc

  read_by : (o : Option ℕ) → after_read o (reduced_by (reduce_of (rule_of f))) ≡ file g
      → (refusal g ≡ none) × (rule_of g ≡ (reduce_of (rule_of f)).rule)
  read_by none e = result_by (reduce_of (rule_of f)).number refl e
  read_by (some x) e = zero_one cc

  pub reduced_read : reduced_file f ≡ file g → (refusal g ≡ none) × (rule_of g ≡ (reduce_of (rule_of f)).rule)
  reduced_read e = read_by (refusal f) e

-- ---- the length of an answer
word_most : (which : Which) → length (apart_word which) ≤ 13
word_most First = omega arith
word_most Second = omega arith

comparison_most : (one other : Rule) (a : Comparison) → compare_of one other ≡ a → length (response_text (compared_by a)) ≤ 65813
comparison_most one other (compared.apart which w) e =
    let l = length-append (apart_word which) (field_of w ++ (10 ∷ [])) in
    let m = length-append (field_of w) (10 ∷ []) in
    omega (arith, word_most which, field_most w ((compare.claims).short one other which w e))
comparison_most one other compared.same e = omega arith
comparison_most one other (compared.refused x) e = omega (arith, refused_short x)

after_most : (o : Option ℕ) (s : Response) → length (response_text s) ≤ 65813 → length (response_text (after_read o s)) ≤ 65813
after_most none s h = h
after_most (some x) s h = omega (arith, refused_short x)

pub fits : (m : Meaning) → length (response_text (response_in m)) ≤ 65813
fits (merges way f g) = merged_fits way f g
fits (compares f g) =
    after_most (refusal f) (after_read (refusal g) (by_rules f g))
    (after_most (refusal g) (by_rules f g) (comparison_most (rule_of f) (rule_of g) (compare_of (rule_of f) (rule_of g)) refl))
fits (reduces f) =
    let m = reduce_of (rule_of f) in
    after_most (refusal f) (reduced_by m) (response_most m.number (file_of m.rule) (λ e. (writer.claims).fits m.rule (reduced_passes (rule_of f) e)))
fits malformed = omega arith

-- ---- the line of a text
module _ (word w before mid : List ℕ) (at a : ℕ) (short : length word ≤ 13) (few : length w ≤ 511) (room : at + 65813 ≤ length before)
    (wrote : Wrote before at word mid a) where
  behind : a + 1023 ≤ length mid
  behind = left 13 1023 (omega arith) (most 13 short wrote)

  module _ (next : List ℕ) (b : ℕ) (field : Wrote mid a (field_of w) next b) where
    pub end_room : b < length next
    end_room = more 1022 0 behind (most 1022 (field_most w few) field)

    pub text_written : (after : List ℕ) (end : ℕ) → Wrote next b (10 ∷ []) after end → Wrote before at (word ++ (field_of w ++ (10 ∷ []))) after end
    text_written after end feed =
        (two 13 1023 (omega arith) (most 13 short wrote) (λ h. two 1022 1 h (most 1022 (field_most w few) field) (λ l. exact feed))).0

-- ---- what is written
module _ (before after : List ℕ) (at end : ℕ) where
  abbrev Says : Response → Type 0
  Says s = Wrote before at (response_text s) after end

  by : {s t : Response} → s ≡ t → Says t → Says s
  by e w = subst Says (sym e) w

  pub by_which : (w : List ℕ) (which one : Which) → which ≡ one → Says (apart one w) → Says (apart which w)
  by_which w which one e s = by (ap (λ (x : Which). apart x w) e) s

  -- ---- by the word
  pub by_pair : (f g : List ℕ) (v u : Verb) → v ≡ u → Says (response_in (pair_by u f g)) → Says (response_in (pair_by v f g))
  by_pair f g v u e w = by (ap (λ (x : Verb). response_in (pair_by x f g)) e) w

  pub by_alone : (f : List ℕ) (v u : Verb) → v ≡ u → Says (response_in (alone_by u f)) → Says (response_in (alone_by v f))
  by_alone f v u e w = by (ap (λ (x : Verb). response_in (alone_by x f)) e) w

-- ---- two files compared, and the rule of a file reduced
module _ (f g : List ℕ) (read : refusal f ≡ none) (read2 : refusal g ≡ none) (one two : Rule) (is : one ≡ rule_of f) (is2 : two ≡ rule_of g) where
  pub compared_answered : (z : Result (code.Option Apart) Refusal) → compare_outcome z ≡ outcome_of (compare_of one two)
      → compared_by (comparison_in (compare_outcome z)) ≡ compared_files f g
  compared_answered z told =
      ap compared_by (ap comparison_in told ∙ (compare.claims).told one two ∙ ap₂ compare_of is is2) ∙ sym (compared_rules f g read read2)

pub made_passes : (r : Rule) (z : Reduced) → reduce_outcome (Ok z) ≡ reduce_of r → rule_number z.rule ≡ none
made_passes r z is =
    subst (λ (m : Reducing). rule_number m.rule ≡ none) (sym is) (reduced_passes r (sym (ap (λ (m : Reducing). m.number) is)))

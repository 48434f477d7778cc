-- What the parts of the text come to, over plain variables, and how long they are at most. Assumes
-- nothing.
--
--   field_empty, field_digits, field_most   a text as a field; at most 1,022 bytes
--   line_refused  the line of a refusal
--   sample_is    the answer that a result tells is that of the definition
--   lines-..     the two lines, or that of a refusal
--   file-..      the text for a file
use Rattle.std.proofs.Common as code
use Rattle.std.proofs.Common.{Result, Ok, Err, Some, None}
use mathlib.Core.Path.{◌≡◌, refl, sym, ap, ◌∙◌}
use mathlib.Core.List.{List, [], ◌∷◌, ◌++◌}
use mathlib.Core.Option.{Option, none}
use Prim.Native.Nat.{ℕ, ◌≤◌}
use native.Mathlib.Omega.{arith}
use lib.ListN.{length}
use Rattle.base.specs.declared.Refusal.{Refusal}
use Rattle.base.specs.Answers.{refusal_number}
use Rattle.fields.specs.Claims.{digits_of, field_of}
use Rattle.hexfields.proofs.Digits.{digits_length}
use Rattle.answers.specs.Answers.{refused_text}
use Rattle.automaton.specs.declared.Rule.{Rule}
use Rattle.ruleformat.specs.Refusals.{refusal}
use Rattle.ruleformat.specs.Reader.{rule_of, rule_by, Reading, read_outcome, read_of}
use Rattle.searches.specs.declared.Spelled.{Spelled}
use Rattle.samples.specs.declared.Wish.{Wish}
use Rattle.samples.specs.declared.Wish.TheVariants as wish
use Rattle.samples.specs.Values.{sample_outcome, outcome_of, sample_in}
use Rattle.samples.specs.Samples.{Sample}
use Rattle.samples.specs.Search.{sample_of}
use Rattle.samples.proofs.Claims.{claims}
use Rattle.sampletext.specs.SampleText.{line_for, accepts_word, rejects_word, lines_by, samples_text, text_by, text_for}

-- ---- a field
pub field_empty : (b : List ℕ) → length b ≡ 0 → 45 ∷ [] ≡ field_of b
field_empty [] e = refl
field_empty (x ∷ b) e = absurd (omega arith)

pub field_digits : (b : List ℕ) → (length b ≡ 0 → ⊥) → digits_of b ≡ field_of b
field_digits [] h = absurd (h refl)
field_digits (x ∷ b) h = refl

pub field_most : (b : List ℕ) → length b ≤ 511 → length (field_of b) ≤ 1022
field_most [] h = omega arith
field_most (x ∷ b) h = omega (arith, digits_length (x ∷ b))

-- ---- a line
abbrev pub Answered : Type 0
Answered = Result (code.Option Spelled) Refusal

abbrev told : Answered → Sample
told r = sample_in (sample_outcome r)

module _ (word : List ℕ) (r : Answered) where
  pub line_refused : (e : Refusal) → r ≡ Err e → refused_text (refusal_number e) ≡ line_for word (told r)
  line_refused e is = sym (ap (λ (x : Answered). line_for word (told x)) is)

-- ---- the lines of a rule
pub sample_is : (r : Rule) (w : Wish) (s : Answered) → sample_outcome s ≡ outcome_of (sample_of r w) → told s ≡ sample_of r w
sample_is r w s e = ap sample_in e ∙ claims.told r w

module _ (r : Rule) (s : Answered) (is : sample_outcome s ≡ outcome_of (sample_of r wish.Accepted)) where
  abbrev second : List ℕ
  second = line_for rejects_word (sample_of r wish.Rejected)

  lines_is : lines_by (told s) second ≡ samples_text r
  lines_is = ap (λ (x : Sample). lines_by x second) (sample_is r wish.Accepted s is)

  both : (o : code.Option Spelled) → line_for accepts_word (told (Ok o)) ++ second ≡ lines_by (told (Ok o)) second
  both (Some spelled) = refl
  both None = refl

  pub lines_two : (o : code.Option Spelled) → s ≡ Ok o → line_for accepts_word (told s) ++ second ≡ samples_text r
  lines_two o e =
      ap (λ (x : Answered). line_for accepts_word (told x) ++ second) e
      ∙ both o
      ∙ ap (λ (x : Answered). lines_by (told x) second) (sym e)
      ∙ lines_is

  pub lines_refused : (e : Refusal) → s ≡ Err e → line_for accepts_word (told s) ≡ samples_text r
  lines_refused x e =
      ap (λ (y : Answered). line_for accepts_word (told y)) e
      ∙ ap (λ (y : Answered). lines_by (told y) second) (sym e)
      ∙ lines_is

-- ---- the text for a file
module _ (f : List ℕ) (r : Result Rule Refusal) (is : read_outcome r ≡ read_of f) where
  read_as : {a : Result Rule Refusal} → r ≡ a → read_outcome a ≡ read_of f
  read_as e = sym (ap read_outcome e) ∙ is

  text_by_lem : {x : Option ℕ} → refusal f ≡ x → text_by x f ≡ text_for f
  text_by_lem e = sym (ap (λ (x : Option ℕ). text_by x f) e)

  pub file_read : (rule : Rule) → r ≡ Ok rule → samples_text rule ≡ text_for f
  file_read rule e =
      let n : refusal f ≡ none = sym (ap (λ (x : Reading). x.number) (read_as e)) in
      let same : rule ≡ rule_of f = ap (λ (x : Reading). x.rule) (read_as e) ∙ ap (λ (x : Option ℕ). rule_by x f) n in
      ap samples_text same ∙ text_by_lem n

  pub file_refused : (x : Refusal) → r ≡ Err x → refused_text (refusal_number x) ≡ text_for f
  file_refused x e = text_by_lem (sym (ap (λ (y : Reading). y.number) (read_as e)))

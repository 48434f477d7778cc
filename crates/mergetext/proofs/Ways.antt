-- What the functions' proofs cite: the file that was written, and each way through two files.
-- Assumes nothing.
--
--   length_most, room_left, file_line    a file that was written, and its line
--   read_rule, read_refused              what reading a file tells
--   merged_first, merged_second, ..      what merging two files is answered
--   merged_passes                        the rule that merging left passes its check
use Rattle.std.proofs.Common.{Result, Ok, Err}
use Rattle.std.specs.Result.{IfOk}
use mathlib.Core.Path.{◌≡◌, refl, sym, ap, ap₂, ◌∙◌, subst}
use mathlib.Core.List.{List, [], ◌∷◌, ◌++◌}
use mathlib.Core.Option.{Option, none, some}
use Prim.Native.Nat.{ℕ, ◌+◌, ◌≤◌, ◌<◌}
use native.Mathlib.Omega.{arith}
use lib.ListN.{length, take}
use Rattle.base.specs.declared.Refusal.{Refusal}
use Rattle.base.specs.Answers.{refusal_number}
use Rattle.limits.specs.Limits.{longest_file}
use Rattle.text.specs.Writing.{Wrote}
use Rattle.text.proofs.Fitting.{Put, put, ◌then◌, taken}
use Rattle.fields.specs.Claims.{digits_of}
use Rattle.hexfields.proofs.Digits.{digits_length}
use Rattle.automaton.specs.declared.Rule.{Rule}
use Rattle.automaton.specs.Rules.{WellFormed}
use Rattle.rulecheck.specs.Checking.{rule_number}
use Rattle.rulecheck.proofs.Laws.{passes}
use Rattle.ruleformat.specs.Refusals.{refusal}
use Rattle.ruleformat.specs.Reader.{Reading, rule_of, read_outcome, read_of}
use Rattle.ruleformat.specs.Writing.{file_of}
use Rattle.merging.specs.declared.Way.{Way}
use Rattle.merging.specs.Merged.{merged_of}
use Rattle.merging.specs.Merging.{merge_number, Merging, merge_outcome, merging_by, merge_of}
use Rattle.mergetext.specs.Answers.{most_answer, files_number, rule_response, merged_files, file}
use Rattle.mergetext.proofs.Files.{refused_first, refused_second, as_rules, result}

-- ---- a file in a buffer that has room for it: its digits leave room for the line feed, and with it
-- they are the line
module _ {f room bytes : List ℕ} {n : ℕ} (most : length f ≤ longest_file) (w : Wrote room 0 f bytes n) where
  pub length_most : n ≤ longest_file
  length_most = omega (arith, w.ends)

  module _ {before mid : List ℕ} {at e : ℕ} (fits : at + most_answer ≤ length before) (wrote : Wrote before at (digits_of (take n bytes)) mid e) where
    digits_put : Put before at (digits_of f) mid e
    digits_put =
        put (omega (arith, digits_length f))
        (subst (λ (b : List ℕ). Wrote before at (digits_of b) mid e) (taken w) wrote)

    pub room_left : e < length mid
    room_left = omega (arith, digits_length f, digits_put.kept, digits_put.wrote.ends)

    pub file_line : {after : List ℕ} {end : ℕ} → Wrote mid e (10 ∷ []) after end
        → Wrote before at (digits_of f ++ (10 ∷ [])) after end
    file_line feed = (digits_put then put (omega (arith, room_left)) feed).wrote

-- ---- what reading tells
module _ (f : List ℕ) where
  pub read_rule : (r : Rule) → read_outcome (Ok r) ≡ read_of f → (refusal f ≡ none) × (r ≡ rule_of f)
  read_rule r reads =
      let n : refusal f ≡ none = sym (ap (λ (x : Reading). x.number) reads) in
      (n, ap (λ (x : Reading). x.rule) reads ∙ rw n)

  pub read_refused : (e : Refusal) → read_outcome (Err e) ≡ read_of f → refusal f ≡ some (refusal_number e)
  read_refused e reads = sym (ap (λ (x : Reading). x.number) reads)

-- ---- two files
number_by : (o : Option ℕ) (r : Rule) → (merging_by o r).number ≡ o
number_by none r = refl
number_by (some x) r = refl

module _ (way : Way) (f g : List ℕ) where
  pub merged_first : (e : Refusal) → refusal f ≡ some (refusal_number e) → rule_response (Err e) ≡ merged_files way f g
  merged_first e is = rw (refused_first way f g (refusal_number e) is)

  module _ (read : refusal f ≡ none) where
    pub merged_second : (e : Refusal) → refusal g ≡ some (refusal_number e) → rule_response (Err e) ≡ merged_files way f g
    merged_second e is = rw (refused_second way f g read (refusal_number e) is)

    module _ (read2 : refusal g ≡ none) (one two : Rule) (is : one ≡ rule_of f) (is2 : two ≡ rule_of g) where
      made : (z : Result Rule Refusal) → merge_outcome z ≡ merge_of way one two → merge_outcome z ≡ merge_of way (rule_of f) (rule_of g)
      made z merges = merges ∙ ap₂ (λ (a b : Rule). merge_of way a b) is is2

      number_made : (z : Result Rule Refusal) → merge_outcome z ≡ merge_of way one two → files_number way f g ≡ (merge_outcome z).number
      number_made z merges =
          as_rules way f g read read2
          ∙ sym (number_by (merge_number way (rule_of f) (rule_of g)) (merged_of way (rule_of f) (rule_of g)))
          ∙ sym (ap (λ (m : Merging). m.number) (made z merges))

      rule_made : (r : Rule) → merge_outcome (Ok r) ≡ merge_of way one two → r ≡ merged_of way (rule_of f) (rule_of g)
      rule_made r merges =
          ap (λ (m : Merging). m.rule) (made (Ok r) merges)
          ∙ ap (λ (o : Option ℕ). (merging_by o (merged_of way (rule_of f) (rule_of g))).rule) (sym (as_rules way f g read read2) ∙ number_made (Ok r) merges)

      pub merged_answered : (z : Result Rule Refusal) → merge_outcome z ≡ merge_of way one two → rule_response z ≡ merged_files way f g
      merged_answered (Ok r) merges = rw (number_made (Ok r) merges) (ap (λ (x : Rule). file (file_of x)) (rule_made r merges))
      merged_answered (Err e) merges = rw (number_made (Err e) merges)

      pub merged_passes : (z : Result Rule Refusal) → merge_outcome z ≡ merge_of way one two → IfOk z (λ r. rule_number r ≡ none)
      merged_passes (Ok r) merges =
          (passes r).1 (subst (λ (x : Rule). WellFormed x) (sym (rule_made r merges)) (result way f g (number_made (Ok r) merges)))
      merged_passes (Err e) merges = tt

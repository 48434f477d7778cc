-- The answer to a pattern, from what reading it answers, and its length. Assumes nothing.
--
--   told-length, told-room   the file fits into its value, which has so many bytes
--   told_file                the bytes that it says are the file
--   accepted, refused        what is to be written
--   text-fits                an answer fits into its room
use mathlib.Core.Path.{◌≡◌, refl, sym, ap, ap₂, ◌∙◌, subst}
use mathlib.Core.Logic.{⊎_elim}
use mathlib.Core.List.{List, [], ◌∷◌, ◌++◌}
use mathlib.Core.Option.{Option, none, some}
use Prim.Native.Nat.{ℕ, ◌≤◌}
use native.Mathlib.Omega.{arith}
use lib.ListN.{length, take, length-append}
use Rattle.std.proofs.Common.{Ok, Err}
use Rattle.base.specs.declared.Refusal.{Refusal}
use Rattle.base.specs.Answers.{refusal_number}
use Rattle.text.specs.Numerals.{decimal_below}
use Rattle.fields.specs.Claims.{digits_of}
use Rattle.hexfields.proofs.Digits.{digits_length}
use Rattle.ruletext.specs.RuleText.{refused_text}
use Rattle.rulewriter.specs.Written.{Writing}
use Rattle.rulewriter.proofs.Claims.{front}
use Rattle.patterns.specs.Limits.{longest_pattern_file}
use Rattle.patternfile.specs.declared.PatternFile.{PatternFile}
use Rattle.patternfile.specs.Answers.{pattern_number, pattern_file, pattern_of, pattern_outcome, file_in}
use Rattle.patternfile.proofs.Claims.{claims}
use Rattle.patterntext.specs.Answers.{answer_room, answer_by, answer_text}

module _ (b : List ℕ) (f : PatternFile) (told : pattern_outcome (Ok f) ≡ pattern_of b) where
  pub told-length : f.length ≤ 2122
  told-length = rw (ap (λ (o : Writing). o.length) told) (claims.fits b)

  pub told-room : length f.bytes ≡ 2122
  told-room = ap (λ (o : Writing). length o.bytes) told ∙ claims.room b

  pub told_file : take f.length f.bytes ≡ pattern_file b
  told_file = ap file_in told ∙ front longest_pattern_file (pattern_file b)

  pub accepted : digits_of (take f.length f.bytes) ++ (10 ∷ []) ≡ answer_text b
  accepted = ap₂ (λ (o : Option ℕ) (d : List ℕ). answer_by o d) (ap (λ (o : Writing). o.number) told) told_file

pub refused : (b : List ℕ) (e : Refusal) → pattern_outcome (Err e) ≡ pattern_of b → refused_text (refusal_number e) ≡ answer_text b
refused b e told = ap (λ (o : Option ℕ). answer_by o (pattern_file b)) (ap (λ (o : Writing). o.number) told)

text-fits-by : (b : List ℕ) (o : Option ℕ) → pattern_number b ≡ o → length (answer_by o (pattern_file b)) ≤ 4245
unfolding decimal_below
text-fits-by b none e =
    omega (arith, length-append (digits_of (pattern_file b)) (10 ∷ []), digits_length (pattern_file b), claims.fits b)
text-fits-by b (some x) e =
    let short : (y : ℕ) → x ≡ y → length (refused_text y) ≤ 4245 → length (refused_text x) ≤ 4245 =
    λ y s h. subst (λ (z : ℕ). length (refused_text z) ≤ 4245) (sym s) h in
    ⊎_elim (λ s. short 30 s (omega arith))
    (λ t. ⊎_elim (λ s. short 31 s (omega arith)) (λ s. short 32 s (omega arith)) t)
    ((claims.refused b).no_other x e)

pub text-fits : (b : List ℕ) → length (answer_text b) ≤ answer_room
text-fits b = text-fits-by b (pattern_number b) refl

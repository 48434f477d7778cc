-- The text for any file has room. Assumes nothing.
use mathlib.Core.Path.{◌≡◌, refl}
use mathlib.Core.List.{List, [], ◌∷◌, ◌++◌}
use mathlib.Core.Option.{Option, none, some}
use Prim.Native.Nat.{ℕ, ◌≤◌}
use native.Mathlib.Omega.{arith}
use lib.ListN.{length, length-append}
use Rattle.fields.specs.Claims.{field_of}
use Rattle.answers.proofs.Lengths.{refused_short}
use Rattle.ruleformat.specs.Refusals.{refusal}
use Rattle.ruleformat.specs.Reader.{rule_of}
use Rattle.samples.specs.declared.Wish.TheVariants.{Accepted, Rejected}
use Rattle.samples.specs.Samples.{Sample, text, nothing, refused}
use Rattle.samples.specs.Search.{sample_of}
use Rattle.samples.proofs.Claims as samples
use Rattle.sampletext.specs.SampleText.{accepts_word, rejects_word, line_for, lines_by, text_by}
use Rattle.sampletext.specs.Claims.{Claims}
use Rattle.sampletext.proofs.Lines.{field_most}
use Rattle.sampletext.proofs.Examples.{worked}

abbrev Short : Sample → Type 0
Short a = (w : List ℕ) → a ≡ text w → length w ≤ 511

line_most : (word : List ℕ) → length word ≡ 8 → (a : Sample) → Short a → length (line_for word a) ≤ 1031
line_most word e (text w) h =
    omega (arith, field_most w (h w refl), length-append word (field_of w ++ (10 ∷ [])), length-append (field_of w) (10 ∷ []))
line_most word e nothing h = omega (arith, length-append word (110 ∷ 111 ∷ 110 ∷ 101 ∷ 10 ∷ []))
line_most word e (refused x) h = omega (arith, refused_short x)

lines_most : (a : Sample) → Short a → (more : List ℕ) → length more ≤ 1031 → length (lines_by a more) ≤ 2062
lines_most (text w) h more b = omega (arith, line_most accepts_word refl (text w) h, length-append (line_for accepts_word (text w)) more)
lines_most nothing h more b = omega (arith, line_most accepts_word refl nothing h, length-append (line_for accepts_word nothing) more)
lines_most (refused x) h more b = omega (arith, refused_short x)

text_most : (o : Option ℕ) (f : List ℕ) → length (text_by o f) ≤ 2062
text_most none f =
    let r = rule_of f in
    lines_most (sample_of r Accepted) ((samples.claims).short r Accepted) (line_for rejects_word (sample_of r Rejected))
    (line_most rejects_word refl (sample_of r Rejected) ((samples.claims).short r Rejected))
text_most (some x) f = omega (arith, refused_short x)

pub claims : Claims
claims = record { worked = worked; fits = λ f. text_most (refusal f) f }

-- The samples of two files as they are printed: the rules are computed from the files, and the
-- samples are those of crates/samples. Assumes nothing.
use mathlib.Core.Path.{◌≡◌, refl, ap, ap₂, ◌∙◌}
use mathlib.Core.List.{List, [], ◌∷◌}
use mathlib.Core.Option.{Option, none}
use Prim.Native.Nat.{ℕ}
use Rattle.base.specs.Conditions.{any_below}
use Rattle.base.specs.Lists.{list_from}
use Rattle.text.specs.Numerals.{hex}
use Rattle.fields.specs.Claims.{digits_of}
use Rattle.automaton.specs.declared.Rule.{Rule}
use Rattle.ruleformat.specs.Refusals.{too_short, too_long, bad_states, bad_symbols, no_room, bad_mask, bad_pairs, bad_section, bad_arcs, refusal}
use Rattle.ruleformat.specs.Reader.{targets_up_to, rule_of}
use Rattle.ruleformat.specs.Worked.{file_A}
use Rattle.ruleformat.proofs.Examples.{accepted_A, rule_A_lem}
use Rattle.samples.specs.declared.Wish.TheVariants.{Accepted, Rejected}
use Rattle.samples.specs.Samples.{Sample, text, nothing}
use Rattle.samples.specs.Search.{sample_of}
use Rattle.samples.specs.Worked.{all_texts}
use Rattle.samples.proofs.Examples.{answered}
use Rattle.sampletext.specs.SampleText.{rejects_word, line_for, lines_by, text_by, text_for}
use Rattle.sampletext.specs.Worked.{lines_A, file_all, WorkedSamples}

-- two answers as they are printed
abbrev shown : Sample → Sample → List ℕ
shown a b = lines_by a (line_for rejects_word b)

printed : (f : List ℕ) (r : Rule) (a b : Sample) → refusal f ≡ none → rule_of f ≡ r → sample_of r Accepted ≡ a → sample_of r Rejected ≡ b
    → text_for f ≡ shown a b
printed f r a b passes is yes_text no_text =
    ap (λ (o : Option ℕ). text_by o f) passes
    ∙ ap (λ (x : Rule). shown (sample_of x Accepted) (sample_of x Rejected)) is
    ∙ ap₂ shown yes_text no_text

accepted_all : refusal file_all ≡ none
unfolding refusal too_short too_long bad_states bad_symbols no_room bad_mask bad_pairs bad_section bad_arcs any_below
accepted_all = refl

rule_all : rule_of file_all ≡ all_texts
unfolding list_from targets_up_to
rule_all = refl

bytes_A : shown (text (0 ∷ 1 ∷ [])) (text []) ≡ lines_A
unfolding digits_of hex
bytes_A = refl

pub worked : WorkedSamples
worked = (
  printed file_A _ (text (0 ∷ 1 ∷ [])) (text []) accepted_A rule_A_lem answered.0 answered.1.0 ∙ bytes_A,
  printed file_all all_texts (text []) nothing accepted_all rule_all answered.1.1.1.1.0 answered.1.1.1.1.1.0,
)

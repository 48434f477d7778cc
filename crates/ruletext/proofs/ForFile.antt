-- The text for what building the rule of a file answers is the text for the file. Assumes nothing.
use mathlib.Core.Path.{◌≡◌, refl, ap, ◌∙◌}
use mathlib.Core.List.{List}
use mathlib.Core.Option.{none, some}
use Prim.Native.Nat.{ℕ}
use Rattle.std.proofs.Common.{Result, Ok, Err}
use Rattle.base.specs.declared.Refusal.{Refusal}
use Rattle.ruleformat.specs.Refusals.{refusal}
use Rattle.ruleformat.specs.Reader.{rule_of}
use Rattle.build.specs.declared.Built.{Built}
use Rattle.build.specs.mirror.Building.{Outcome, build_outcome, build_of}
use Rattle.ruletext.specs.RuleText.{text_of, refused_text}
use Rattle.ruletext.specs.Printing.{built_text, text_for}

answered : (b : Result Built Refusal) → text_of b ≡ built_text (build_outcome b).answer (build_outcome b).built
answered (Ok built) = refl
answered (Err refusal) = refl

module _ (f : List ℕ) where
  pub text_for_lem : refusal f ≡ none → (b : Result Built Refusal) → build_outcome b ≡ build_of (rule_of f) → text_of b ≡ text_for f
  text_for_lem read b is = answered b ∙ ap (λ (o : Outcome). built_text o.answer o.built) is ∙ rw read

  pub text_unread : (number : ℕ) → refusal f ≡ some number → refused_text number ≡ text_for f
  text_unread number read = rw read

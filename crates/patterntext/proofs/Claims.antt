-- The proof of all that specs/Claims.antt claims. Assumes nothing.
use mathlib.Core.Path.{ap}
use mathlib.Core.Option.{Option}
use Prim.Native.Nat.{ℕ}
use Rattle.ruletext.specs.RuleText.{refused_text}
use Rattle.linetexts.proofs.Alone.{answered_lines}
use Rattle.patterns.specs.Limits.{longest_pattern}
use Rattle.patternfile.specs.Answers.{pattern_file}
use Rattle.patternfile.proofs.Claims as patternfile
use Rattle.patterntext.specs.Answers.{answer_room, answer_by, answer_text}
use Rattle.patterntext.specs.Claims.{Claims}
use Rattle.patterntext.proofs.Answers.{text-fits}
use Rattle.patterntext.proofs.Examples.{worked}

pub claims : Claims
claims = record {
  worked = worked;
  fits = text-fits;
  answers =
      answered_lines answer_text (refused_text 30) longest_pattern answer_room
      (λ b long. ap (λ (o : Option ℕ). answer_by o (pattern_file b)) (((patternfile.claims).refused b).number_30.1 long));
}

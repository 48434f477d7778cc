-- The claims of specs/Claims.antt. Assumes nothing.
use mathlib.Core.Path.{ap}
use Rattle.questions.specs.Meaning.{LineMeaning}
use Rattle.linebuffer.specs.Meanings.{line_told}
use Rattle.linebuffer.specs.Claims.{Claims}
use Rattle.linebuffer.proofs.Standing.{held_step_lem}

pub claims : Claims
claims = record {
  runs = held_step_lem;
  question_keeps = λ j l q e. ap (λ (m : LineMeaning). (line_told j m).state) e;
}

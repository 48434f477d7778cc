-- `put_located` meets its contract. Assumes nothing.
use mathlib.Core.List.{[], ◌∷◌}
use native.Mathlib.Omega.{arith}
use Rattle.answers.proofs.Lengths.{line_short}
use Rattle.questions.specs.Answers.{after_word}
use Rattle.questions.proofs.put_located.Goals as goal

pub put_line-requires : goal.put_line-requires
put_line-requires c =
    omega (arith, c.requires, line_short after_word (c.in-Ok-Some.bytes ∷ []))

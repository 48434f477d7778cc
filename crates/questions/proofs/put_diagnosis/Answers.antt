-- `put_diagnosis` meets its contract. Assumes nothing.
use mathlib.Core.List.{[], ◌∷◌}
use native.Mathlib.Omega.{arith}
use Rattle.answers.proofs.Lengths.{line_short}
use Rattle.questions.specs.Answers.{lost_word, open_word}
use Rattle.questions.proofs.put_diagnosis.Goals as goal

pub put_line-requires : goal.put_line-requires
put_line-requires c =
    omega (arith, c.requires, line_short lost_word (c.in-Ok-Lost.place ∷ []))

pub put_line-requires-in-Ok-Open : goal.put_line-requires-in-Ok-Open
put_line-requires-in-Ok-Open c =
    omega (arith, c.requires, line_short open_word (c.in-Ok-Open.places ∷ []))

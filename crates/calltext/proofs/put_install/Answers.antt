-- `put_install` meets its contract. Assumes nothing.
use mathlib.Core.List.{[], ◌∷◌}
use native.Mathlib.Omega.{arith}
use Rattle.answers.specs.Answers.{accepted_word}
use Rattle.answers.proofs.Lengths.{line_short}
use Rattle.calltext.proofs.put_install.Goals as goal

pub put_line-requires : goal.put_line-requires
put_line-requires c =
    omega (arith, c.requires, line_short accepted_word (c.in-Ok.sizes.sets ∷ c.in-Ok.sizes.starts ∷ []))

pub returns-in-Ok : goal.returns-in-Ok
returns-in-Ok c = rw c.in-Ok.is c.put_line.ensures

pub returns-in-Err : goal.returns-in-Err
returns-in-Err c = rw (c.in-Err.is, ← c.number.ensures) c.put_refused.ensures

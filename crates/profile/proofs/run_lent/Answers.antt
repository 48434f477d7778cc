-- `run_lent` meets its contract. A chunk without marks is its own text. Assumes nothing.
use mathlib.Core.Path.{sym, ◌∙◌}
use Rattle.marks.proofs.Claims as marks
use Rattle.profile.proofs.Ways.{run_12}
use Rattle.profile.proofs.run_lent.Goals as goal

pub returns-then-chunk-gt-CHUNK : goal.returns-then-chunk-gt-CHUNK
returns-then-chunk-gt-CHUNK c = λ p lends. run_12 p _ c.if-chunk-gt-CHUNK.true

pub returns : goal.returns
returns c =
    λ p lends.
    c.run_text.ensures p _ lends c.if-chunk-gt-CHUNK.false ((marks.claims).unmarked _ (sym c.has_marks.ensures ∙ c.if-has_marks.false))

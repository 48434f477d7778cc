-- `locate_chunk` meets its contract: a chunk without marks is its own text. Assumes nothing.
use mathlib.Core.Path.{sym, ◌∙◌}
use Rattle.locating.proofs.Spotting.{unmarked_text}
use Rattle.locating.proofs.locate_chunk.Goals as goal

pub returns : goal.returns
returns c =
    c.locate_text.ensures
    ∙ unmarked_text _ _ _ _ _ _ _ (sym c.has_marks.ensures ∙ c.if-has_marks.false)

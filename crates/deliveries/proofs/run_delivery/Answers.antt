-- `run_delivery` meets its contract: a chunk without marks is its own text. Assumes nothing.
use mathlib.Core.Path.{sym, ◌∙◌}
use Rattle.marks.proofs.Claims as marks
use Rattle.deliveries.proofs.run_delivery.Goals as goal

pub returns : goal.returns
returns c =
    c.run_text.ensures ∙ rw ((marks.claims).unmarked _ (sym c.has_marks.ensures ∙ c.if-has_marks.false))

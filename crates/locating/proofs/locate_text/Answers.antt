-- `locate_text` meets its contract: each way out is a case of `text_spot`. Assumes nothing.
use mathlib.Core.Path.{sym, ◌∙◌}
use Rattle.locating.proofs.Spotting.{text_13, text_23, text_found}
use Rattle.locating.proofs.locate_text.Goals as goal

pub returns-then-has_foreign : goal.returns-then-has_foreign
returns-then-has_foreign c = text_13 _ _ _ _ _ _ _ (sym c.has_foreign.ensures ∙ c.if-has_foreign.true)

pub returns-then-gap : goal.returns-then-gap
returns-then-gap c = text_23 _ _ _ _ _ _ _ (sym c.has_foreign.ensures ∙ c.if-has_foreign.false) c.if-gap.true

pub returns-then-text-few_bytes : goal.returns-then-text-few_bytes
returns-then-text-few_bytes c =
    text_found _ _ _ _ _ _ _ (sym c.has_foreign.ensures ∙ c.if-has_foreign.false) c.if-gap.false _ c.find_by_run.ensures

pub returns : goal.returns
returns c =
    text_found _ _ _ _ _ _ _ (sym c.has_foreign.ensures ∙ c.if-has_foreign.false) c.if-gap.false _ c.find_by_table.ensures

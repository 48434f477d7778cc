-- `step` meets its contract. Assumes nothing.
use mathlib.Core.Path.{ap, ap₂, ◌∙◌}
use Rattle.mappings.specs.Mappings.{compose}
use Rattle.mappings.specs.Packing.{pack}
use Rattle.mappings.proofs.step.Goals as goal

pub returns : goal.returns
returns c = c.pack.ensures ∙ ap pack (c.compose.ensures ∙ ap₂ compose c.unpack.ensures c.letter.ensures)

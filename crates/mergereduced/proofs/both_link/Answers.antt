-- `both_link` meets its contract. Assumes nothing.
use mathlib.Core.Path.{ap₂, ◌∙◌}
use Rattle.masks.specs.Masks.{shares}
use Rattle.mergereduced.proofs.Ways.{left_low, right_low}
use Rattle.mergereduced.proofs.both_link.Goals as goal

pub symbols_at-a-requires : goal.symbols_at-a-requires
symbols_at-a-requires c = let a = c.args in let g = c.requires in (left_low a.n1 a.n2 a.q g.0 g.1, left_low a.n1 a.n2 a.p g.0 g.2)

pub symbols_at-b-requires : goal.symbols_at-b-requires
symbols_at-b-requires c = let a = c.args in let g = c.requires in (right_low a.n1 a.n2 a.q g.0 g.1, right_low a.n1 a.n2 a.p g.0 g.2)

pub returns : goal.returns
returns c = c.meets.ensures ∙ ap₂ shares c.symbols_at-a.ensures c.symbols_at-b.ensures

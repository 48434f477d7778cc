-- `start_cell` meets its contract. Assumes nothing.
use Rattle.mergereduced.proofs.Ways.{bit_yes, bit_no, start-past}
use mathlib.Core.Path.{sym, ◌∙◌}
use native.Mathlib.Omega.{arith}
use Rattle.merging.specs.Merged.{set_of}
use Rattle.mergereduced.proofs.start_cell.Goals as goal

pub returns-then-in_set : goal.returns-then-in_set
returns-then-in_set c = let a = c.args in bit_yes (set_of a.way a.n1 a.n2 a.a a.b) a.q (sym c.in_set.ensures ∙ c.if-in_set.true)

pub returns-else-in_set : goal.returns-else-in_set
returns-else-in_set c = let a = c.args in bit_no (set_of a.way a.n1 a.n2 a.a a.b) a.q (sym c.in_set.ensures ∙ c.if-in_set.false)

pub returns-else-q-states : goal.returns-else-q-states
returns-else-q-states c = let a = c.args in let g = c.requires in start-past a.way a.n1 a.n2 a.a a.b g.0 g.1 a.q (omega (arith, c.if-q-states.false, c.states.ensures))

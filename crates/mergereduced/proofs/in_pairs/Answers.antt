-- `in_pairs` meets its contract. Assumes nothing.
use mathlib.Core.Path.{sym, ◌∙◌}
use native.Mathlib.Omega.{arith}
use Rattle.mergereduced.proofs.Ways.{left_low, right_low, pairs_yes, pairs_no}
use Rattle.mergereduced.proofs.in_pairs.Goals as goal

pub overflow_cast-x : goal.overflow_cast-x
overflow_cast-x c = let a = c.args in let g = c.requires in omega (arith, left_low a.n1 a.n2 a.p g.1 g.2)

pub member-requires : goal.member-requires
member-requires c = let a = c.args in let g = c.requires in left_low a.n1 a.n2 a.p g.1 g.2

pub overflow_cast-y : goal.overflow_cast-y
overflow_cast-y c = let a = c.args in let g = c.requires in omega (arith, right_low a.n1 a.n2 a.p g.1 g.2)

pub member-requires-then-member : goal.member-requires-then-member
member-requires-then-member c = let a = c.args in let g = c.requires in right_low a.n1 a.n2 a.p g.1 g.2

pub returns-then-member : goal.returns-then-member
returns-then-member c = let a = c.args in let g = c.requires in pairs_yes a.a a.b a.n1 a.n2 g.0 g.1 a.p (sym c.member.ensures ∙ c.if-member.true) c.member-then-member.result c.member-then-member.ensures

pub returns : goal.returns
returns c = let a = c.args in let g = c.requires in pairs_no a.a a.b a.n1 a.n2 g.0 g.1 a.p (sym c.member.ensures ∙ c.if-member.false)

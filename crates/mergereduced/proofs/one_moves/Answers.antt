-- `one_moves` meets its contract. Assumes nothing.
use native.Mathlib.Omega.{arith}
use Rattle.mergereduced.proofs.Ways.{left_low, right_low, alone_first, alone_second, alone_there, alone_other}
use borrow.Author.Rules.{rules}
use Rattle.mergereduced.proofs.one_moves.Goals as goal

pub mask_at-a-requires : goal.mask_at-a-requires
mask_at-a-requires c = let a = c.args in let g = c.requires in (left_low a.n1 a.n2 a.q g.tabled.sizes g.from, g.symbol)

pub mask_at-b-requires : goal.mask_at-b-requires
mask_at-b-requires c = let a = c.args in let g = c.requires in (right_low a.n1 a.n2 a.q g.tabled.sizes g.from, g.symbol)

pub overflow_cast-x : goal.overflow_cast-x
overflow_cast-x c = let a = c.args in let g = c.requires in omega (arith, left_low a.n1 a.n2 a.q g.tabled.sizes g.from)

pub singleton-own1-requires : goal.singleton-own1-requires
singleton-own1-requires c = let a = c.args in let g = c.requires in left_low a.n1 a.n2 a.q g.tabled.sizes g.from

pub overflow_cast-y : goal.overflow_cast-y
overflow_cast-y c = let a = c.args in let g = c.requires in omega (arith, right_low a.n1 a.n2 a.q g.tabled.sizes g.from)

pub singleton-own2-requires : goal.singleton-own2-requires
singleton-own2-requires c = let a = c.args in let g = c.requires in right_low a.n1 a.n2 a.q g.tabled.sizes g.from

pub in_pairs-requires : goal.in_pairs-requires
in_pairs-requires c = let a = c.args in let g = c.requires in (alone_first a.n1 a.n2 a.t1.now a.t2.now g.tabled a.q a.s g.from c.mask_at-a.result c.singleton-own2.result c.mask_at-a.ensures c.singleton-own2.ensures, g.tabled.sizes, g.to)

pub returns-then-in_pairs : goal.returns-then-in_pairs
returns-then-in_pairs c = search (rules, alone_there)

pub in_pairs-requires-2 : goal.in_pairs-requires-2
in_pairs-requires-2 c = let a = c.args in let g = c.requires in (alone_second a.n1 a.n2 a.t1.now a.t2.now g.tabled a.q a.s g.from c.mask_at-b.result c.singleton-own1.result c.mask_at-b.ensures c.singleton-own1.ensures, g.tabled.sizes, g.to)

pub returns : goal.returns
returns c = search (rules, alone_other)

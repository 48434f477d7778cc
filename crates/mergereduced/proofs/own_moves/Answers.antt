-- `own_moves` meets its contract. Assumes nothing.
use Rattle.mergereduced.proofs.Ways.{read_first, read_second, own_first, own_second}
use Rattle.mergereduced.proofs.own_moves.Goals as goal

pub in_beside-requires : goal.in_beside-requires
in_beside-requires c = let a = c.args in let g = c.requires in (read_first a.n1 a.n2 a.t1.now a.t2.now g.tabled a.q a.s c.mask_at-a.result c.if-q-n1.true c.mask_at-a.ensures, g.tabled.sizes, g.to)

pub returns-then-q-n1 : goal.returns-then-q-n1
returns-then-q-n1 c = let a = c.args in let g = c.requires in own_first a.n1 a.n2 a.t1.now a.t2.now g.tabled a.q a.s a.p c.in_beside.result c.mask_at-a.result c.if-q-n1.true c.mask_at-a.ensures c.in_beside.ensures

pub in_beside-requires-2 : goal.in_beside-requires-2
in_beside-requires-2 c = let a = c.args in let g = c.requires in (read_second a.n1 a.n2 a.t1.now a.t2.now g.tabled a.q a.s c.mask_at-b.result g.from c.if-q-n1.false c.mask_at-b.ensures, g.tabled.sizes, g.to)

pub returns : goal.returns
returns c = let a = c.args in let g = c.requires in own_second a.n1 a.n2 a.t1.now a.t2.now g.tabled a.q a.s a.p c.in_beside-2.result c.mask_at-b.result c.if-q-n1.false c.mask_at-b.ensures c.in_beside-2.ensures

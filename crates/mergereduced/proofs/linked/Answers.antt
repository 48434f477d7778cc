-- `linked` meets its contract. Assumes nothing.
use Rattle.mergereduced.specs.mirror.Asked.{link_in}
use Rattle.mergereduced.proofs.Ways.{link_forth, link_back}
use Rattle.mergereduced.proofs.linked.Goals as goal

pub returns-then-forth : goal.returns-then-forth
returns-then-forth c = let a = c.args in link_forth (link_in a.way a.n1 a.n2 a.m1.now a.m2.now) a.forth a.q a.p c.link.result c.if-forth.true c.link.ensures

pub returns : goal.returns
returns c = let a = c.args in link_back (link_in a.way a.n1 a.n2 a.m1.now a.m2.now) a.forth a.q a.p c.link-2.result c.if-forth.false c.link-2.ensures

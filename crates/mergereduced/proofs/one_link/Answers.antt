-- `one_link` meets its contract. Assumes nothing.
use Rattle.mergereduced.proofs.Ways.{left_low, right_low, one_first, Rests, rests_apart, rests_none, one_second, one_none}
use borrow.Author.Rules.{rules}
use Rattle.mergereduced.proofs.one_link.Goals.{else-y-w, then-y-w+else-symbols_at-ne0}
use Rattle.mergereduced.proofs.one_link.Goals as goal

pub symbols_at-requires : goal.symbols_at-requires
symbols_at-requires c = search (rules, left_low)

pub returns-then-symbols_at-ne0 : goal.returns-then-symbols_at-ne0
returns-then-symbols_at-ne0 c = search (rules, one_first)

pub symbols_at-requires-then-x-z : goal.symbols_at-requires-then-x-z
symbols_at-requires-then-x-z c = search (rules, right_low)

pub returns-then-x-z : goal.returns-then-x-z
returns-then-x-z c =
    let a = c.args in
    let rests : Rests a.n1 a.n2 a.m1.now a.m2.now a.q a.p = (elim c.if-y-w.branch [
      | then-y-w+else-symbols_at-ne0 w ↦ rests_none a.n1 a.n2 a.m1.now a.m2.now a.q a.p w.symbols_at.result w.if-y-w.true w.symbols_at.ensures w.if-symbols_at-ne0.false
      | else-y-w w ↦ rests_apart a.n1 a.n2 a.m1.now a.m2.now a.q a.p w.if-y-w.false
    ]) in
    search (rules, rests, one_second)

pub returns : goal.returns
returns c =
    let a = c.args in
    let rests : Rests a.n1 a.n2 a.m1.now a.m2.now a.q a.p = (elim c.if-y-w.branch [
      | then-y-w+else-symbols_at-ne0 w ↦ rests_none a.n1 a.n2 a.m1.now a.m2.now a.q a.p w.symbols_at.result w.if-y-w.true w.symbols_at.ensures w.if-symbols_at-ne0.false
      | else-y-w w ↦ rests_apart a.n1 a.n2 a.m1.now a.m2.now a.q a.p w.if-y-w.false
    ]) in
    search (rules, rests, one_none)

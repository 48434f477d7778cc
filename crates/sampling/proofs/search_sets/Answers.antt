-- `search_sets` meets its contract, one way out at a time. Assumes nothing.
use native.Mathlib.Omega.{arith}
use Rattle.sampling.proofs.Ways.{most, tabled, search_over, search_text, search_none}
use Rattle.sampling.proofs.search_sets.Goals as goal

pub first_meeting-first-requires : goal.first_meeting-first-requires
first_meeting-first-requires c =
    let t = c.number_keys-table in
    most c.args.rule c.args.wish c.requires t.result t.ensures c.in-Some.count c.in-Some.is

pub overflow_cast-number : goal.overflow_cast-number
overflow_cast-number c =
    let t = c.number_keys-table in
    omega (arith, c.if-first-count.true, most c.args.rule c.args.wish c.requires t.result t.ensures c.in-Some.count c.in-Some.is)

pub spell-requires : goal.spell-requires
spell-requires c =
    let t = c.number_keys-table in
    let f = c.first_meeting-first in
    tabled c.args.rule c.args.wish c.requires t.result t.ensures c.in-Some.count c.in-Some.is f.result c.if-first-count.true

pub returns-then-first-count : goal.returns-then-first-count
returns-then-first-count c =
    let t = c.number_keys-table in
    let f = c.first_meeting-first in
    search_text c.args.rule c.args.wish c.requires t.result t.ensures c.in-Some.count c.in-Some.is f.result f.ensures c.spell.result c.if-first-count.true c.spell.ensures

pub returns-in_default : goal.returns-in_default
returns-in_default c =
    let t = c.number_keys-table in
    search_over c.args.rule c.args.wish c.requires t.result t.ensures (cc)

pub returns : goal.returns
returns c =
    let t = c.number_keys-table in
    let f = c.first_meeting-first in
    search_none c.args.rule c.args.wish c.requires t.result t.ensures c.in-Some.count c.in-Some.is f.result f.ensures c.if-first-count.false

-- `kept_pairs` meets its contract. Assumes nothing.
use Rattle.mergereduced.proofs.Ways.{sized, initial_small, final_small}
use Rattle.mergereduced.proofs.Links.{kept_made}
use Rattle.mergereduced.specs.mirror.Asked.{set_in}
use borrow.Author.Rules.{rules}
use Rattle.mergereduced.proofs.kept_pairs.Goals as goal

pub closed-reached-requires : goal.closed-reached-requires
closed-reached-requires c = search (rules, sized, initial_small)

pub closed-live-requires : goal.closed-live-requires
closed-live-requires c = search (rules, sized, final_small)

pub returns : goal.returns
returns c =
    let a = c.args in
    let g = c.requires in
    let m1 = c.symbols_of-m1 in
    let m2 = c.symbols_of-m2 in
    let i = c.start_of-initials in
    let f = c.start_of-finals in
    let x = c.closed-reached in
    let y = c.closed-live in
    kept_made a.way a.one a.two g.0 g.1 m1.result m2.result (set_in i.result) (set_in f.result) (set_in x.result) (set_in y.result) (set_in c.both_of.result)
    m1.ensures
    m2.ensures
    i.ensures
    f.ensures
    x.ensures
    y.ensures
    c.both_of.ensures

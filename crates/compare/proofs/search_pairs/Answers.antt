-- `search_pairs` meets its contract, one way out at a time. Assumes nothing.
use native.Mathlib.Omega.{arith}
use Rattle.compare.proofs.Ways.{most, tabled, search_text, search_over, search_same}
use Rattle.compare.proofs.search_pairs.Goals as goal

pub first_apart-first-requires : goal.first_apart-first-requires
first_apart-first-requires c =
    let h = c.unwrap_or-count in
    let n = c.number_by-table in
    most c.args.one c.args.two c.requires.0 c.requires.1 c.requires.2 n.result n.ensures h.result h.ensures

pub offset_bounds-pairs-first : goal.offset_bounds-pairs-first
offset_bounds-pairs-first c =
    let h = c.unwrap_or-count in
    let n = c.number_by-table in
    record { fits = omega (arith, c.if-first-count.true, most c.args.one c.args.two c.requires.0 c.requires.1 c.requires.2 n.result n.ensures h.result h.ensures) }

pub bounds-pairs-first : goal.bounds-pairs-first
bounds-pairs-first c =
    let h = c.unwrap_or-count in
    let n = c.number_by-table in
    omega (arith, c.if-first-count.true, most c.args.one c.args.two c.requires.0 c.requires.1 c.requires.2 n.result n.ensures h.result h.ensures)

pub overflow_cast-number : goal.overflow_cast-number
overflow_cast-number c =
    let h = c.unwrap_or-count in
    let n = c.number_by-table in
    omega (arith, c.if-first-count.true, most c.args.one c.args.two c.requires.0 c.requires.1 c.requires.2 n.result n.ensures h.result h.ensures)

pub spell-text-requires : goal.spell-text-requires
spell-text-requires c =
    let h = c.unwrap_or-count in
    let n = c.number_by-table in
    tabled c.args.one c.args.two c.requires.0 c.requires.1 c.requires.2 n.result n.ensures h.result h.ensures
    c.first_apart-first.result c.if-first-count.true

pub returns-then-first-count : goal.returns-then-first-count
returns-then-first-count c =
    let h = c.unwrap_or-count in
    let n = c.number_by-table in
    let f = c.first_apart-first in
    let w = c.which_of-which in
    search_text c.args.one c.args.two c.requires.0 c.requires.1 c.requires.2 n.result n.ensures h.result h.ensures
    f.result f.ensures c.spell-text.result w.result c.if-first-count.true w.ensures c.spell-text.ensures

pub returns-in-None : goal.returns-in-None
returns-in-None c =
    let h = c.unwrap_or-count in
    let n = c.number_by-table in
    let f = c.first_apart-first in
    search_over c.args.one c.args.two c.requires.0 c.requires.1 c.requires.2 n.result n.ensures h.result h.ensures
    f.result f.ensures c.if-first-count.false c.in-None.is

pub returns-in-Some : goal.returns-in-Some
returns-in-Some c =
    let h = c.unwrap_or-count in
    let n = c.number_by-table in
    let f = c.first_apart-first in
    search_same c.args.one c.args.two c.requires.0 c.requires.1 c.requires.2 n.result n.ensures h.result h.ensures
    f.result f.ensures c.if-first-count.false _ c.in-Some.is

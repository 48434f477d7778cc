-- `targets_of` meets its contract. Assumes nothing.
use borrow.Author.Rules.{rules}
use native.Mathlib.Omega.{arith}
use Rattle.merge.proofs.Ways.{fits_both, fits_either, fits_interleaving, in_either, in_interleaving, row_first, row_second, masks_read, targets_both, targets_either, targets_interleaving}
use Rattle.products.proofs.Numbers.{left_below, right_below}
use Rattle.merge.proofs.targets_of.Goals as goal

pub mask_at-a-requires : goal.mask_at-a-requires
mask_at-a-requires c = search (rules, row_first)

pub mask_at-b-requires : goal.mask_at-b-requires
mask_at-b-requires c = search (rules, row_second)

pub pairs-requires : goal.pairs-requires
pairs-requires c = search (rules, masks_read, row_first, row_second, fits_both)

pub own_targets-requires : goal.own_targets-requires
own_targets-requires c = search (rules, fits_either, in_either)

pub overflow_cast-x : goal.overflow_cast-x
overflow_cast-x c =
    let a = c.args in
    let p = c.requires in
    omega (arith, row_first a.way a.n1 a.n2 p.0 a.q p.2)

pub overflow_cast-y : goal.overflow_cast-y
overflow_cast-y c =
    let a = c.args in
    let p = c.requires in
    omega (arith, row_second a.way a.n1 a.n2 p.0 a.q p.2)

pub one_moves-requires : goal.one_moves-requires
one_moves-requires c =
    let a = c.args in
    let p = c.requires in
    let below = in_interleaving a.way a.n1 a.n2 p.0 a.q p.2 c.in-Interleaving.is in (
      masks_read a.way a.n1 a.n2 a.t1.now a.t2.now a.q a.s c.mask_at-a.result c.mask_at-b.result 0
          c.mask_at-a.ensures
          c.mask_at-b.ensures
          p.1
          (row_first a.way a.n1 a.n2 p.0 a.q p.2)
          (row_second a.way a.n1 a.n2 p.0 a.q p.2),
      left_below a.n1 a.n2 a.q below,
      right_below a.n1 a.n2 a.q below,
      fits_interleaving a.way a.n1 a.n2 p.0 c.in-Interleaving.is,
    )

pub returns-in-Both : goal.returns-in-Both
returns-in-Both c = search (rules, targets_both)

pub returns-in-Either : goal.returns-in-Either
returns-in-Either c = search (rules, targets_either)

pub returns-in-Interleaving : goal.returns-in-Interleaving
returns-in-Interleaving c = search (rules, targets_interleaving)

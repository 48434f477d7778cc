-- `walk_back` meets its contract. The way leads to lower numbers, which is its measure. Assumes
-- nothing.
use mathlib.Core.Path.{refl, sym, subst}
use Prim.Native.Nat.{ℕ, ◌-◌, ◌/◌, ◌%◌, ◌<◌}
use native.Mathlib.Omega.{arith}
use lib.ListN.{set}
use Rattle.searches.proofs.Cells.{lower}
use Rattle.searches.proofs.Back.{Back, back_begins, room, back_more, back_ends}
use Rattle.searches.proofs.walk_back.Goals as goal

pub loop-at-init : goal.loop-at-init
loop-at-init c = back_begins c.args.next.now c.args.k c.args.number.0 _ c.requires refl

pub first_cell-cell-requires : goal.first_cell-cell-requires
first_cell-cell-requires c = (omega arith, c.loop-at.invariant.tabled)

pub overflow_sub-from : goal.overflow_sub-from
overflow_sub-from c =
    let x = c.loop-at in
    let a = c.args in
    let some : 0 < x.at = omega arith in
    room a.next.now a.k a.number.0 x.text x.from x.at x.invariant some

pub bounds-text-from : goal.bounds-text-from
bounds-text-from c =
    let x = c.loop-at in
    let a = c.args in
    let some : 0 < x.at = omega arith in
    omega (arith, x.invariant.inside, room a.next.now a.k a.number.0 x.text x.from x.at x.invariant some)

pub overflow_cast-at : goal.overflow_cast-at
overflow_cast-at c =
    let x = c.loop-at in
    let a = c.args in
    let some : 0 < x.at = omega arith in
    omega (arith, c.first_cell-cell.ensures, lower a.next.now a.k x.at x.invariant.tabled some)

pub loop-at-smaller : goal.loop-at-smaller
loop-at-smaller c =
    let x = c.loop-at in
    let a = c.args in
    let some : 0 < x.at = omega arith in
    omega (arith, c.first_cell-cell.ensures, lower a.next.now a.k x.at x.invariant.tabled some)

pub loop-at-preserved : goal.loop-at-preserved
loop-at-preserved c =
    let x = c.loop-at in
    let a = c.args in
    let some : 0 < x.at = omega arith in
    subst (λ (r : ℕ). Back a.next.now a.k a.number.0 (set x.text (x.from - 1) (r % 16)) (x.from - 1) (r / 16)) (sym c.first_cell-cell.ensures)
    (back_more a.next.now a.k a.number.0 x.text x.from x.at x.invariant some)

pub returns : goal.returns
returns c =
    let x = c.loop-at in
    let a = c.args in
    (x.invariant.inside, x.invariant.long, back_ends a.next.now a.k a.number.0 x.text x.from x.at x.invariant (omega arith))

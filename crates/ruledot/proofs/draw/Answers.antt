-- A drawing ends within the buffer, which has room for any.
use Rattle.std.proofs.Common.{arith, ◌≤◌, length, sym, length-take-le}
use Rattle.dottext.proofs.Drawn.{drawn_most}
use Rattle.ruledot.proofs.draw.Goals as goal

pub slice_bounds-text-end : goal.slice_bounds-text-end
slice_bounds-text-end g c = omega (arith, drawn_most c.in-Ok.ensures)

pub slice_bounds-write_all-end-in-Ok : goal.slice_bounds-write_all-end-in-Ok
slice_bounds-write_all-end-in-Ok g c =
    let within : c.in-Ok.length ≤ length c.print_whole.new.out = omega (arith, drawn_most c.in-Ok.ensures) in
    sym (length-take-le _ _ within)

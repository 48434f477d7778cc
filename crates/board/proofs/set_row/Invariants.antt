-- `set_row` meets its contract: the first q cells of the place's row are stored. Assumes nothing.
use Prim.Native.Nat.{◌<◌}
use lib.ListN.{get_or}
use Rattle.board.proofs.Rows.{Stored}
use Rattle.board.proofs.set_row.Given as goal

abbrev pub invariant-loop-q : goal.invariant-loop-q
invariant-loop-q l = (l.place < 64) × Stored l.initial.ends l.place (λ i. get_or l.row i 0) l.q l.ends

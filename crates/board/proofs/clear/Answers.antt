-- `clear` meets its contract. Assumes nothing.
use mathlib.Core.Path.{◌≡◌, ◌∙◌}
use lib.ListN.{get_or, replicate, get_or-replicate}
use Rattle.board.specs.Boards.{row_set, cleared_at}
use Rattle.board.proofs.Rows.{row_same}
use Rattle.board.proofs.clear.Goals as goal

pub returns : goal.returns
unfolding cleared_at
returns c =
    let a = c.args in
    let e : c.set_row.new.ends ≡ row_set a.board.ends a.place (λ q. 0) =
    c.set_row.ensures ∙ row_same a.board.ends a.place (λ q. get_or (replicate 32 0) q 0) (λ q. 0) (λ q h. get_or-replicate 32 q 0 0 h) in
    rw e

-- `get_board` meets its contract. Assumes nothing.
use Rattle.text.proofs.Rooms.{made}
use Rattle.saved_judge.proofs.Steps.{are_cells}
use Rattle.saved_judge.proofs.get_board.Goals as goal

pub returns : goal.returns
returns c =
    let b = c.args.bytes.now in
    λ i. record {
      places = c.get_little.ensures.0 i;
      filled = are_cells b 18550 _ _ _ _ c.get_cells.ensures (made 64) i;
      counts = are_cells b 18614 _ _ _ _ c.get_cells-2.ensures (made 64) i;
      lengths = are_cells b 18870 _ _ _ _ c.get_cells-3.ensures (made 64) i;
      revisions = are_cells b 19126 _ _ _ _ c.get_cells-4.ensures (made 64) i;
      ends = are_cells b 19638 _ _ _ _ c.get_cells-5.ensures (made 2048) i;
    }

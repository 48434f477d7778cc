-- `get_built` meets its contract. Assumes nothing.
use Rattle.text.proofs.Rooms.{made}
use Rattle.saved_judge.proofs.Steps.{are_cells}
use Rattle.saved_judge.proofs.get_built.Goals as goal

pub returns : goal.returns
returns c =
    let b = c.args.bytes.now in
    λ i. record {
      n = c.get_little.ensures.0 i;
      k = c.get_little-2.ensures.0 i;
      startcount = c.get_little-3.ensures.0 i;
      setcount = c.get_little-4.ensures.0 i;
      initials = c.get_little-5.ensures.0 i;
      finals = c.get_little-6.ensures.0 i;
      delegates = are_cells b 21 _ _ _ _ c.get_cells.ensures (made 32) i;
      singles = are_cells b 53 _ _ _ _ c.get_cells-2.ensures (made 32) i;
      sets = are_cells b 117 _ _ _ _ c.get_cells-3.ensures (made 512) i;
      next = are_cells b 2165 _ _ _ _ c.get_cells-4.ensures (made 8192) i;
    }

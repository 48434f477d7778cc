-- `save` meets its contract. Assumes nothing.
use Rattle.text.proofs.Rooms.{made}
use Rattle.saved_judge.proofs.Ways.{whole_saved}
use Rattle.saved_judge.proofs.save.Goals as goal

pub returns : goal.returns
returns c =
    let h = c.put_head-a in
    let n = c.put_numbers-b in
    let t = c.put_tables-c in
    let b = c.put_board-d in
    let p = c.put_little in (
      record { built = c.of_type.ensures; board = c.of_type_board.ensures },
      whole_saved c.args.judge _ _ _ _ _ _ _ _ _ _ _ _ (made 27838) h.ensures.0 h.ensures.1 n.ensures.0 n.ensures.1
          t.ensures.0 t.ensures.1 b.ensures.0 b.ensures.1 c.digest-sum.ensures p.ensures.0 p.ensures.1,
    )

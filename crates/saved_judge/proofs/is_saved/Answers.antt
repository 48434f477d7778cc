-- `is_saved` meets its contract. Assumes nothing.
use Rattle.saved_judge.proofs.Ways.{no_size, no_head, all_right}
use Rattle.saved_judge.proofs.is_saved.Goals as goal

pub returns-then-bytes-ne-SAVED : goal.returns-then-bytes-ne-SAVED
returns-then-bytes-ne-SAVED c = no_size _ c.if-bytes-ne-SAVED.true

pub returns-then-head_right : goal.returns-then-head_right
returns-then-head_right c =
    all_right _ c.if-bytes-ne-SAVED.false _ c.head_right.ensures c.if-head_right.true _ _ c.get_little.ensures.0 c.digest.ensures

pub returns : goal.returns
returns c = no_head _ c.if-bytes-ne-SAVED.false _ c.head_right.ensures c.if-head_right.false

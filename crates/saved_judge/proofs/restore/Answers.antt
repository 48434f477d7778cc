-- `restore` meets its contract. Assumes nothing.
use Rattle.std.proofs.Common.{sym, ◌∙◌}
use Rattle.saved_judge.proofs.Ways.{size_right, accepted_is, refused_is}
use Rattle.saved_judge.proofs.restore.Goals as goal

pub returns-then-not-is_saved : goal.returns-then-not-is_saved
returns-then-not-is_saved c = refused_is _ (sym c.is_saved.ensures ∙ c.if-not-is_saved.true)

pub get_built-built-requires : goal.get_built-built-requires
get_built-built-requires c = size_right _ (sym c.is_saved.ensures ∙ c.if-not-is_saved.false)

pub get_board-board-requires : goal.get_board-board-requires
get_board-board-requires c = size_right _ (sym c.is_saved.ensures ∙ c.if-not-is_saved.false)

pub returns : goal.returns
returns c =
    accepted_is _ _ _ (sym c.is_saved.ensures ∙ c.if-not-is_saved.false) c.get_built-built.ensures c.get_board-board.ensures

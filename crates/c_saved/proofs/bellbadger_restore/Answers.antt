-- `bellbadger_restore` meets its contract. Assumes nothing.
use mathlib.Core.Path.{ap}
use Rattle.calls.specs.mirror.Steps.{fresh}
use Rattle.c_saved.specs.Numbers.{restore_shown}
use Rattle.c_saved.proofs.bellbadger_restore.Goals as goal

pub returns-in-Ok : goal.returns-in-Ok
returns-in-Ok c = rw (c.shown-shown.ensures.0, c.shown-shown.ensures.1, c.in-Ok.is) (ap restore_shown (rw c.in-Ok.is at c.restore-restored.ensures))

pub returns-in-Err : goal.returns-in-Err
unfolding fresh
returns-in-Err c =
    rw (c.shown-shown.ensures.0, c.shown-shown.ensures.1, c.in-Err.is, c.nothing_built-built.ensures, c.empty_board-board.ensures)
    (ap restore_shown (rw c.in-Err.is at c.restore-restored.ensures))

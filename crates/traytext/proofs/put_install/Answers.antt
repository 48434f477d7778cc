-- `put_install` meets its contract. Assumes nothing.
use Rattle.traytext.proofs.put_install.Goals as goal

pub returns-in-Ok : goal.returns-in-Ok
returns-in-Ok c = rw c.in-Ok.is c.put_installed.ensures

pub returns-in-Err : goal.returns-in-Err
returns-in-Err c = rw (c.in-Err.is, ← c.number.ensures) c.put_refused.ensures

-- `install` meets its contract. Assumes nothing.
use Rattle.trays.proofs.Ways.{install_refused, install_accepted}
use Rattle.traycalls.proofs.install.Goals as goal

pub returns-in-Err : goal.returns-in-Err
returns-in-Err c =
    let a = c.args in
    install_refused a.tray a.next a.rule c.in-Err.refusal c.in-Err.ensures

pub returns-in-Ok : goal.returns-in-Ok
returns-in-Ok c =
    let a = c.args in
    install_accepted a.tray a.next a.rule _ c.in-Ok.ensures

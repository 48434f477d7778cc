-- `run_empty` meets its contract. Assumes nothing.
use mathlib.Core.Path.{ap}
use Rattle.trays.specs.declared.Tray.{Tray}
use Rattle.traytext.specs.Answers.{began}
use Rattle.traylines.proofs.run_empty.Goals as goal

pub returns : goal.returns
returns c = ap (λ (t : Tray). record { response = began; state = t }) c.new_tray-tray.ensures

-- No call of a tray asks anything of its caller: what each asks, as the checker reads its contract
-- (`Reads.Asked`), is met by any arguments whatever. Assumes nothing.
use mathlib.Core.List.{List}
use Prim.Native.Nat.{ℕ}
use contract.Lifetimes.{Lfts}
use denote.Ref.{Bor}
use Rattle.automaton.specs.declared.Rule.{Rule}
use Rattle.trays.specs.declared.Tray.{Tray}
use Rattle.traycalls.proofs.new_tray.Reads as new_tray
use Rattle.traycalls.proofs.install_row.Reads as install_row
use Rattle.traycalls.proofs.install_column.Reads as install_column
use Rattle.traycalls.proofs.open.Reads as opening
use Rattle.traycalls.proofs.deliver.Reads as deliver
use Rattle.traycalls.proofs.withdraw.Reads as withdraw
use Rattle.traycalls.proofs.ask_verdict.Reads as verdict

pub new_tray_asks_nothing : new_tray.Asked tt tt
new_tray_asks_nothing = tt

pub install_row_asks_nothing : (t : Tray) (r : Rule) → install_row.Asked tt (t, (r, tt))
install_row_asks_nothing t r = tt

pub install_column_asks_nothing : (t : Tray) (r : Rule) → install_column.Asked tt (t, (r, tt))
install_column_asks_nothing t r = tt

pub open_asks_nothing : (t : Tray) (w n : ℕ) → opening.Asked tt (t, (w, (n, tt)))
open_asks_nothing t w n = tt

pub deliver_asks_nothing : (κs : Lfts 1) (t : Tray) (p : ℕ) (b : Bor (List ℕ)) → deliver.Asked κs (t, (p, (b, tt)))
deliver_asks_nothing κs t p b = tt

pub withdraw_asks_nothing : (t : Tray) (p : ℕ) → withdraw.Asked tt (t, (p, tt))
withdraw_asks_nothing t p = tt

pub verdict_asks_nothing : (t : Tray) → verdict.Asked tt (t, tt)
verdict_asks_nothing t = tt

-- No function that C links asks anything of its caller: what each asks, as the checker reads its
-- contract (`Reads.Asked`), is met by any arguments whatever. Assumes nothing.
use mathlib.Core.List.{List}
use Prim.Native.Nat.{ℕ}
use contract.Lifetimes.{Lfts}
use denote.Ref.{Bor}
use Rattle.automaton.specs.declared.Rule.{Rule}
use Rattle.trays.specs.declared.Tray.{Tray}
use Rattle.c_trays.proofs.bellbadger_tray_new.Reads as tray_new
use Rattle.c_trays.proofs.bellbadger_tray_install_row.Reads as tray_install_row
use Rattle.c_trays.proofs.bellbadger_tray_install_column.Reads as tray_install_column
use Rattle.c_trays.proofs.bellbadger_tray_open.Reads as tray_open
use Rattle.c_trays.proofs.bellbadger_tray_deliver.Reads as tray_deliver
use Rattle.c_trays.proofs.bellbadger_tray_withdraw.Reads as tray_withdraw
use Rattle.c_trays.proofs.bellbadger_tray_verdict.Reads as tray_verdict

pub new_asks_nothing : tray_new.Asked tt tt
new_asks_nothing = tt

pub install_row_asks_nothing : (t : Tray) (r : Rule) → tray_install_row.Asked tt (t, (r, tt))
install_row_asks_nothing t r = tt

pub install_column_asks_nothing : (t : Tray) (r : Rule) → tray_install_column.Asked tt (t, (r, tt))
install_column_asks_nothing t r = tt

pub open_asks_nothing : (t : Tray) (w n : ℕ) → tray_open.Asked tt (t, (w, (n, tt)))
open_asks_nothing t w n = tt

pub deliver_asks_nothing : (κs : Lfts 1) (t : Tray) (p : ℕ) (b : Bor (List ℕ)) → tray_deliver.Asked κs (t, (p, (b, tt)))
deliver_asks_nothing κs t p b = tt

pub withdraw_asks_nothing : (t : Tray) (p : ℕ) → tray_withdraw.Asked tt (t, (p, tt))
withdraw_asks_nothing t p = tt

pub verdict_asks_nothing : (t : Tray) → tray_verdict.Asked tt (t, tt)
verdict_asks_nothing t = tt

-- No function that C links asks anything of its caller: what each asks, as the checker reads its
-- contract (`Reads.Asked`), is met by any arguments whatever. Assumes nothing.
use mathlib.Core.List.{List}
use Prim.Native.Nat.{ℕ}
use contract.Lifetimes.{Lfts}
use denote.Ref.{Bor}
use Rattle.automaton.specs.declared.Rule.{Rule}
use Rattle.calls.specs.declared.Judge.{Judge}
use Rattle.capi.proofs.bellbadger_new.Reads as bellbadger_new
use Rattle.capi.proofs.bellbadger_read.Reads as bellbadger_read
use Rattle.capi.proofs.bellbadger_install.Reads as bellbadger_install
use Rattle.capi.proofs.bellbadger_load.Reads as bellbadger_load
use Rattle.capi.proofs.bellbadger_open.Reads as bellbadger_open
use Rattle.capi.proofs.bellbadger_deliver.Reads as bellbadger_deliver
use Rattle.capi.proofs.bellbadger_withdraw.Reads as bellbadger_withdraw
use Rattle.capi.proofs.bellbadger_verdict.Reads as bellbadger_verdict
use Rattle.capi.proofs.bellbadger_replay.Reads as bellbadger_replay

pub new_asks_nothing : bellbadger_new.Asked tt tt
new_asks_nothing = tt

pub read_asks_nothing : (κs : Lfts 1) (c : Bor (List ℕ)) → bellbadger_read.Asked κs (c, tt)
read_asks_nothing κs c = tt

pub install_asks_nothing : (j : Judge) (r : Rule) → bellbadger_install.Asked tt (j, (r, tt))
install_asks_nothing j r = tt

pub load_asks_nothing : (κs : Lfts 1) (j : Judge) (c : Bor (List ℕ)) → bellbadger_load.Asked κs (j, (c, tt))
load_asks_nothing κs j c = tt

pub open_asks_nothing : (j : Judge) (n : ℕ) → bellbadger_open.Asked tt (j, (n, tt))
open_asks_nothing j n = tt

pub deliver_asks_nothing : (κs : Lfts 1) (j : Judge) (p v : ℕ) (c : Bor (List ℕ)) → bellbadger_deliver.Asked κs (j, (p, (v, (c, tt))))
deliver_asks_nothing κs j p v c = tt

pub withdraw_asks_nothing : (j : Judge) (p : ℕ) → bellbadger_withdraw.Asked tt (j, (p, tt))
withdraw_asks_nothing j p = tt

pub verdict_asks_nothing : (j : Judge) → bellbadger_verdict.Asked tt (j, tt)
verdict_asks_nothing j = tt

pub replay_asks_nothing : (κs : Lfts 1) (c : Bor (List ℕ)) → bellbadger_replay.Asked κs (c, tt)
replay_asks_nothing κs c = tt

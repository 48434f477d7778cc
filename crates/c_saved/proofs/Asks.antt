-- The functions that C links ask nothing of their caller: what they ask, as the checker reads their
-- contracts (`Reads.Asked`), is met by any arguments whatever. Assumes nothing.
use mathlib.Core.List.{List}
use Prim.Native.Nat.{ℕ}
use contract.Lifetimes.{Lfts}
use denote.Ref.{Bor}
use Rattle.calls.specs.declared.Judge.{Judge}
use Rattle.c_saved.proofs.bellbadger_save.Reads as bellbadger_save
use Rattle.c_saved.proofs.bellbadger_restore.Reads as bellbadger_restore

pub save_asks_nothing : (j : Judge) → bellbadger_save.Asked tt (j, tt)
save_asks_nothing j = tt

pub restore_asks_nothing : (κs : Lfts 1) (b : Bor (List ℕ)) → bellbadger_restore.Asked κs (b, tt)
restore_asks_nothing κs b = tt

-- The functions that C links ask nothing of their caller: what they ask, as the checker reads their
-- contracts (`Reads.Asked`), is met by any arguments whatever. Assumes nothing.
use mathlib.Core.List.{List}
use Prim.Native.Nat.{ℕ}
use contract.Lifetimes.{Lfts}
use denote.Ref.{Bor}
use Rattle.calls.specs.declared.Judge.{Judge}
use Rattle.c_losses.proofs.bellbadger_diagnose.Reads as bellbadger_diagnose
use Rattle.c_losses.proofs.bellbadger_locate.Reads as bellbadger_locate

pub diagnose_asks_nothing : (j : Judge) → bellbadger_diagnose.Asked tt (j, tt)
diagnose_asks_nothing j = tt

pub locate_asks_nothing : (κs : Lfts 1) (j : Judge) (p : ℕ) (c : Bor (List ℕ)) → bellbadger_locate.Asked κs (j, (p, (c, tt)))
locate_asks_nothing κs j p c = tt

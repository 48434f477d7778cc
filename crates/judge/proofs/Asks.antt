-- No function of the judge asks anything of its caller: what each asks, as the checker reads its
-- contract (`Reads.Asked`), is met by any arguments whatever. Assumes nothing.
use mathlib.Core.List.{List}
use Prim.Native.Nat.{ℕ}
use contract.Lifetimes.{Lfts}
use denote.Ref.{Bor}
use Rattle.automaton.specs.declared.Rule.{Rule}
use Rattle.calls.specs.declared.Judge.{Judge}
use Rattle.judge.proofs.new_judge.Reads as new_judge
use Rattle.judge.proofs.install.Reads as install
use Rattle.judge.proofs.load.Reads as load
use Rattle.judge.proofs.open.Reads as opening
use Rattle.judge.proofs.deliver.Reads as deliver
use Rattle.judge.proofs.withdraw.Reads as withdraw
use Rattle.judge.proofs.ask_verdict.Reads as verdict

pub new_judge_asks_nothing : new_judge.Asked tt tt
new_judge_asks_nothing = tt

pub install_asks_nothing : (j : Judge) (r : Rule) → install.Asked tt (j, (r, tt))
install_asks_nothing j r = tt

pub load_asks_nothing : (κs : Lfts 1) (j : Judge) (c : Bor (List ℕ)) → load.Asked κs (j, (c, tt))
load_asks_nothing κs j c = tt

pub open_asks_nothing : (j : Judge) (n : ℕ) → opening.Asked tt (j, (n, tt))
open_asks_nothing j n = tt

pub deliver_asks_nothing : (κs : Lfts 1) (j : Judge) (p v : ℕ) (c : Bor (List ℕ)) → deliver.Asked κs (j, (p, (v, (c, tt))))
deliver_asks_nothing κs j p v c = tt

pub withdraw_asks_nothing : (j : Judge) (p : ℕ) → withdraw.Asked tt (j, (p, tt))
withdraw_asks_nothing j p = tt

pub verdict_asks_nothing : (j : Judge) → verdict.Asked tt (j, tt)
verdict_asks_nothing j = tt
